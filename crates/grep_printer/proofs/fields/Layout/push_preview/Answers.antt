use Rattle.std.proofs.Common.{◌≡◌, ℕ, ◌+◌, ◌∙◌, List, ap, ap₂, length, subst}
use Rattle.std.specs.List.{count_by}
use Rattle.grep_output.specs.PendingTexts.{Adds}
use Rattle.grep_printer.proofs.PushLemmas.{adds-two}
use Rattle.grep_printer.specs.ColoredTexts.{color_of}
use Rattle.grep_printer.specs.LineTexts.{begins_after, is_touching, more_notice, painted_line, preview_text, previewed}
use Rattle.grep_printer.proofs.fields.Layout.push_preview.Goals as goal

pub returns : goal.returns
unfolding preview_text
returns c =
    let layout = c.args.self.now in
    let parts = c.args.parts.now in
    let start = c.args.start in
    let highlight = color_of c.args.highlight in
    let line : List ℕ = c.args.line.now in
    let first : List ℕ = previewed layout line in
    let end = start + length line in
    let shown = c.previewed-shown.ensures.value in
    let notice : more_notice c.count_touching-all.result c.count_beginning-later.result
    ≡ more_notice (count_by (is_touching start end) parts) (count_by (begins_after (start + length first) end) parts) =
    ap₂ more_notice c.count_touching-all.ensures (c.count_beginning-later.ensures
    ∙ ap (λ (bytes : List ℕ). count_by (begins_after (start + length bytes) end) parts) shown) in
    adds-two c.args.text.now c.push_bytes.new.text c.push_more.new.text (painted_line layout highlight parts start first) _
    (subst (λ (bytes : List ℕ). Adds c.args.text.now c.push_bytes.new.text (painted_line layout highlight parts start bytes))
    shown c.push_bytes.ensures)
    (subst (Adds c.push_bytes.new.text c.push_more.new.text) notice c.push_more.ensures)

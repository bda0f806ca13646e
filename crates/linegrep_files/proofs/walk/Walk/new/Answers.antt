use Rattle.std.proofs.Common.{◌++◌, ◌∷◌, ◌∙◌, [], ap}
use Rattle.std.specs.Prelude.{string_bytes}
use Rattle.linegrep_files.specs.declared.entry.Entry.TheVariants.{Folder}
use Rattle.linegrep_files.proofs.walk.Walk.new.Goals as goal

pub returns-in-Ok-begin : goal.returns-in-Ok-begin
returns-in-Ok-begin g c memory =
    let begun = c.in-Ok-begin.ensures.pending in
    let on = c.begin.ensures.on in
    let with = c.with-walk.ensures in
    record {
      path = begun.0;
      is = begun.1;
      system_is = ap (λ finder. finder.system) on.finder ∙ with.system_is;
      links = ap (λ finder. finder.follows_links) on.finder ∙ with.links;
      top = ap (λ finder. string_bytes finder.top) on.finder ∙ ap string_bytes with.top_is
          ∙ c.in-Ok.ensures.ok ∙ c.name_of.ensures;
      root = rw (ap (λ finder. finder.root) on.finder ∙ with.root_is)
          (rw c.as_bytes.ensures.value at c.root_of.ensures);
      pending = begun.2 ∙ ap (λ l. l ++ Folder begun.0 ∷ []) with.pending;
    }

use Rattle.std.proofs.Common.{◌≡◌, ◌+◌, ◌-◌, ◌<◌, ◌++◌, take, drop, length, length-take-le}
use Rattle.std.proofs.Common.{length-drop, refl, sym, subst, ap, ◌∙◌, arith}
use Rattle.std.proofs.lemmas.List.{places, with_items_is}
use Rattle.grep_decode.specs.UndecodedBytes.{UndecodedBytes}
use Rattle.grep_decode.proofs.PieceLemmas.{window-appended}
use Rattle.grep_decode.proofs.undecoded.Undecoded.pull.Goals as goal
use borrow.Rule.Slice.PartMut.{put_mid}

pub returns-in-Ok-clause-grows : goal.returns-in-Ok-clause-grows
returns-in-Ok-clause-grows g c =
    let u = c.self.inside in
    let held = u.end - u.start in
    let size = (held + c.min-most.result) - held in
    let values = c.deref_mut.result.now in
    let got = c.pull.new.buffer in
    let count = c.in-Ok.count in
    let whole : length (put_mid held size values got) ≡ c.copy_within.new.self.len =
    grind (arith, places) in
    let bytes = window-appended u.start u.end size count u.buffer.items c.copy_within.new.self.items
    values got (omega arith) (omega arith)
    c.copy_within.ensures.items c.deref_mut.ensures.value c.in-Ok.ensures.bound.0 in
    let P : UndecodedBytes → Type 0 = λ now. length now.bytes < now.capacity in
    let free : length (take held (drop u.start u.buffer.items)) < length u.buffer.items =
    subst P (sym c.self.view_is) c.requires.room in
    let all : length (take held (drop u.start u.buffer.items))
    ≡ held = length-take-le held _ (rw length-drop (omega arith)) in
    let room : held < length u.buffer.items = omega (arith, free, all) in
    let same : c.copy_within.new.self.len ≡ length u.buffer.items = search in
    record {
      piece = take count got;
      counted = sym c.in-Ok.ensures.bound.1;
      appended = rw (with_items_is c.copy_within.new.self (put_mid held size values got) whole)
          (bytes ∙ ap (λ now. now.bytes ++ take count got) c.self.view_is);
      has_ended = refl;
      capacity = rw (with_items_is c.copy_within.new.self (put_mid held size values got) whole)
          (whole ∙ (same ∙ ap (λ now. now.capacity) c.self.view_is));
      called = c.in-Ok.ensures.step;
      takes = c.in-Ok.ensures.bytes.0;
      ended = λ none. c.in-Ok.ensures.bytes.1 none (grind (arith, places));
    }

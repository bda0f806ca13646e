use Rattle.std.proofs.Common.{rules, refl, inl, inr}
use Rattle.grep_searcher.proofs.searcher.Searcher.search_path.Goals as goal

pub returns-in-Ok-clause-in_order : goal.returns-in-Ok-clause-in_order
returns-in-Ok-clause-in_order g c = λ allowed.
    inr (
      c.in-Ok.file,
      c.search_file.new.file,
      c.search_file.ensures.in_order allowed,
      (c.path_text.result.now, c.path_text.ensures.bytes, c.in-Ok.ensures),
    )

pub returns-in-Err-clause-in_order : goal.returns-in-Err-clause-in_order
returns-in-Err-clause-in_order g c = λ allowed.
    inl (
      c.in-Err.error,
      _,
      refl,
      c.error_io.ensures,
      refl,
      (c.path_text.result.now, c.path_text.ensures.bytes, c.in-Err.ensures),
    )

pub returns-in-Ok-clause-settings : goal.returns-in-Ok-clause-settings
returns-in-Ok-clause-settings g c = search rules

pub returns-in-Ok-clause-buffers : goal.returns-in-Ok-clause-buffers
returns-in-Ok-clause-buffers g c = search rules

pub returns-in-Ok-clause-gets : goal.returns-in-Ok-clause-gets
returns-in-Ok-clause-gets g c = search rules

pub returns-in-Ok-clause-searched : goal.returns-in-Ok-clause-searched
returns-in-Ok-clause-searched g c =
    inr (
      c.in-Ok.file,
      c.search_file.new.file,
      c.search_file.ensures.searched,
      (c.path_text.result.now, c.path_text.ensures.bytes, c.in-Ok.ensures),
    )

pub returns-in-Ok-clause-succeeds : goal.returns-in-Ok-clause-succeeds
returns-in-Ok-clause-succeeds g c = search rules

pub returns-in-Ok-clause-may_call : goal.returns-in-Ok-clause-may_call
returns-in-Ok-clause-may_call g c = search rules

pub returns-in-Err-clause-settings : goal.returns-in-Err-clause-settings
returns-in-Err-clause-settings g c = search rules

pub returns-in-Err-clause-buffers : goal.returns-in-Err-clause-buffers
returns-in-Err-clause-buffers g c = search rules

pub returns-in-Err-clause-gets : goal.returns-in-Err-clause-gets
returns-in-Err-clause-gets g c = search rules

pub returns-in-Err-clause-searched : goal.returns-in-Err-clause-searched
returns-in-Err-clause-searched g c =
    inl (
      c.in-Err.error,
      _,
      refl,
      c.error_io.ensures,
      refl,
      (c.path_text.result.now, c.path_text.ensures.bytes, c.in-Err.ensures),
    )

pub returns-in-Err-clause-succeeds : goal.returns-in-Err-clause-succeeds
returns-in-Err-clause-succeeds g c = search rules

pub returns-in-Err-clause-may_call : goal.returns-in-Err-clause-may_call
returns-in-Err-clause-may_call g c = search rules

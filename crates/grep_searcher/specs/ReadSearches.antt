-- What a search of a reader does, and why it ends in an error, also if its searcher lacks its
-- buffers. The contracts of private functions cite these definitions; no public contract does.
use Rattle.std.specs.Prelude.{ℕ, Bool, true, List, Option, Result, Ok}
use Rattle.std.specs.declared.io.Error.{Error}
use Rattle.grep_decode.specs.Source.{ReadResult}
use Rattle.grep_definitions.specs.Plans.{Settings, Steps, begins}
use Rattle.grep_definitions.specs.Searches.{EndsUnread, IsRead, Look}
use Rattle.grep_matcher.specs.Meanings.{MatcherFacts, Meaning}
use Rattle.grep_report.specs.ErrorMakers.{ErrorMakers}

module _ {R : Type 0} (remaining : R → Option (List ℕ))
    (read_step : R → ReadResult → R → Type 0) where
  -- a search by any searcher with these settings does this, whether it has its buffers or not
  abbrev pub IsReadByAny : {S E F : Type 0} → Steps S E → ErrorMakers F E → MatcherFacts F
      → Settings → Look → R → S → Result (Unit {0}) E → R → S → Type 0
  IsReadByAny step errors matcher settings look reader old result reader' new =
      (has_buffers : Bool) → IsRead remaining read_step step errors matcher
      (record { settings = settings; has_buffers = has_buffers }) look reader old result reader' new

  -- the error of a search by any such searcher is made of one by which its input wasn't searched to
  -- its end
  abbrev pub EndsUnreadByAny : {E : Type 0} → (Error → E → Type 0) → Settings → Meaning → R → E → R
      → Type 0
  EndsUnreadByAny is_io settings meaning old e new =
      (has_buffers : Bool) → EndsUnread remaining read_step is_io
      (record { settings = settings; has_buffers = has_buffers }) meaning old e new

-- the fact holds of each state of a sink from which `begin` returned true and led to this one
abbrev pub IfBegun : {S E : Type 0} → Steps S E → Settings → S → (S → Type 0) → Type 0
IfBegun {S} step settings now Fact =
    (first : S) → step first settings begins (Ok true) now → Fact first

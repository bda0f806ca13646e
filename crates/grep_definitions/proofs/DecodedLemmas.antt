-- Which inputs are searched as they are.
use Rattle.std.proofs.Common.{◌≡◌, Bool, true, false, not, ◌||◌, ◌&&◌, ◌++◌, Option, Some, None}
use Rattle.std.proofs.Common.{refl, ap}
use Rattle.std.specs.Prelude.{is_some, if◌then◌else◌}
use Rattle.grep_decode.proofs.DecodedTextLemmas.{unchanged-decoded}
use Rattle.grep_decode.specs.Decoded.{by_mark, found_mark, mark_of, marked}
use Rattle.grep_decode.specs.declared.label.Label.{Label}
use Rattle.grep_decode.specs.declared.label.Label.TheVariants.{Utf8}
use Rattle.grep_definitions.specs.Searches.{searched_bytes, encoding_after, encoding_of}
use Rattle.grep_definitions.specs.SliceSearches.{is_searched_unchanged}
use Rattle.grep_definitions.specs.SearchLaws.{MarkedPasses, UnchangedIsInput, UnchangedPasses}
use Rattle.grep_definitions.specs.SearchLaws.{UnsniffedIsUnchanged, UnmarkedIsUnchanged}

pub unchanged-input : UnchangedIsInput
unfolding searched_bytes is_searched_unchanged
unchanged-input settings input is = unchanged-decoded settings.encoding settings.bom_sniffing input
    is

pub unsniffed-unchanged : UnsniffedIsUnchanged
unfolding is_searched_unchanged
unsniffed-unchanged settings input unlabelled unsniffed = rw (unlabelled, unsniffed) refl

none-found : (sniff : Bool) (mark : Option Label) → mark ≡ None
    → not (is_some (if sniff || false then mark else None)) ≡ true
none-found true mark none = rw none refl
none-found false mark none = refl

pub unmarked-unchanged : UnmarkedIsUnchanged
unfolding is_searched_unchanged
unmarked-unchanged settings input unlabelled unmarked =
    rw unlabelled (none-found settings.bom_sniffing (marked input) unmarked)

passes-without : (label mark : Option Label) → (not (is_some label) && not (is_some mark)) ≡ true
    → encoding_after mark label ≡ None
passes-without None None unchanged = refl
passes-without None (Some mark) unchanged = cc
passes-without (Some label) mark unchanged = cc

pub unchanged-passes : UnchangedPasses
unfolding is_searched_unchanged encoding_of
unchanged-passes settings input is =
    passes-without settings.encoding (found_mark settings.encoding settings.bom_sniffing input) is

pub marked-passes : MarkedPasses
unfolding searched_bytes encoding_of
marked-passes settings input looks = (
  ap (λ b. encoding_after (if b then Some Utf8 else None) settings.encoding) looks,
  ap (λ b. by_mark (if b then Some Utf8 else None) settings.encoding (mark_of Utf8 ++ input)) looks,
)

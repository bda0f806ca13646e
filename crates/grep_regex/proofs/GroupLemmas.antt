-- The groups of what an engine finds.
use Rattle.std.proofs.Common.{◌≡◌, ℕ, ◌+◌, ◌-◌, ◌*◌, ◌<◌, ◌≤◌, ◌&&◌, nat_le, List, [], ◌∷◌, length, Option, Some, None}
use Rattle.std.proofs.Common.{Bool, true, false, refl, option_map, ap, ap₂, sym, ◌∙◌, subst, get_or, cond, arith}
use Rattle.std.proofs.Math.Logic.{∥∥₁_elim, ∥∥₁_map, ∥∥₁_map₂}
use Rattle.std.proofs.lemmas.Bool.{and_parts, leb-true}
use Rattle.std.proofs.lemmas.List.{get_or_default}
use Rattle.std.proofs.lemmas.List.Elements.{All-cons, All-nil}
use Rattle.std.proofs.lemmas.Option.{none-some, same_Some}
use Rattle.std.specs.Arc.{arc_value}
use Rattle.std.specs.Coded.{Coded, coded_ℕ, coded_list, coded_option, coded×}
use Rattle.std.specs.Option.{IfSome, MatchOption, option_map_or}
use Rattle.std.proofs.Common.{IsSomeAnd, chars}
use base.Stored.{Coded-set}
use Rattle.grep_matcher.specs.FindResults.{IsFrom}
use Rattle.grep_replace.specs.Groups.{LieWithin}
use Rattle.regex_hir.specs.Find.{Match, find}
use Rattle.regex_hir.specs.Meaning.{meaning}
use Rattle.regex_hir.specs.Re.{Re}
use Rattle.regex_hir.specs.declared.hir.Hir.{Hir}
use Rattle.regex_meta.specs.declared.program.Program.{Program}
use Rattle.regex_syntax.specs.Brackets.{Nested}
use Rattle.regex_syntax.specs.Captures.{SameCaptures}
use Rattle.regex_syntax.specs.Grammar.{Names, group_count as captures_in, read}
use Rattle.regex_syntax.specs.Verdict.{Reads}
use Rattle.regex_syntax.specs.declared.Config.{Config}
use Rattle.regex_vm.specs.Found.{first_match, group_cells, span}
use Rattle.grep_regex.specs.Clear.{find_clear}
use Rattle.grep_regex.specs.Groups.{group_count, group_of_cells, groups_of_cells, groups_of_match}
use Rattle.grep_regex.specs.Groups.{names_in, HasOneGroup}
use Rattle.grep_regex.specs.Patterns.{captured, excluded_bytes, leftmost_match_at, written_re}
use Rattle.grep_regex.specs.Seen.{seen_bytes}
use Rattle.regex_meta.proofs.ProgramLemmas.{first_match_span}
use Rattle.regex_meta.specs.Programs.{leftmost}
use Rattle.grep_regex.specs.Views.{engine_regex, regex_capturing, regex_options, regex_patterns, regex_program}
use Rattle.grep_regex.specs.Views.{regex_text_at, regex_text_groups_at}
use Rattle.grep_regex.specs.declared.options.Options.{Options}
use Rattle.grep_regex.specs.declared.engine.Engine.{Engine}
use Rattle.grep_regex.specs.declared.group_finder.GroupFinder.{GroupFinder}
use Rattle.grep_regex.specs.declared.regex.Regex.{Regex}

-- what the expression finds
abbrev pub regex_found : Regex → List ℕ → ℕ → Option Match
regex_found r text start = find_clear (excluded_bytes (regex_options r).line_terminator)
    (written_re (regex_options r) (regex_patterns r)) text start

-- there are two slots for each group
pub slots-of : (r : Regex)
    → (regex_capturing r).dfa.nfa.slot_count ≡ 2 * group_count (regex_options r) (regex_patterns r)
slots-of r = ∥∥₁_elim (arc_value r.shared).sized (Coded-set coded_ℕ _ _) (λ s. s.capturing.slots)

-- the groups of what is seen of a match
abbrev of_captured : ℕ → (ℕ × ℕ) × List ℕ → List (Option (ℕ × ℕ))
of_captured size seen = Some seen.0 ∷ groups_of_cells size seen.1

groups-of-seen : (size count : ℕ) (o : Option Match) → option_map_or (groups_of_match size count) o []
    ≡ option_map_or (of_captured size) (option_map (captured (2 * count - 2)) o) []
groups-of-seen size count None = refl
groups-of-seen size count (Some m) = refl

-- without a match there are none
pub groups-none : (size count : ℕ) (o : Option Match) → None ≡ option_map span o
    → option_map_or (groups_of_match size count) o [] ≡ []
groups-none size count None is = refl
groups-none size count (Some m) is = absurd (none-some (span m) is)

-- if there is one group, it is the match
one-of-match : (size : ℕ) (o : Option Match) → option_map_or (groups_of_match size 1) o []
    ≡ option_map_or (λ m. Some m ∷ []) (option_map span o) []
unfolding group_cells
one-of-match size None = refl
one-of-match size (Some m) = refl

pub one-group : (o : Options) (patterns : List (List ℕ)) → group_count o patterns ≡ 1 → HasOneGroup o patterns
one-group o patterns one haystack start =
    let seen = seen_bytes o.line_terminator haystack in
    let found = find_clear (excluded_bytes o.line_terminator) (written_re o patterns) seen start in
    subst (λ n. option_map_or (groups_of_match (length seen) n) found []
    ≡ option_map_or (λ m. Some m ∷ []) (option_map span found) []) (sym one) (one-of-match (length seen) found)

group-lies : (size first last : ℕ) → IfSome (group_of_cells size first last) (λ g. (g.0 ≤ g.1) × (g.1 ≤ size))
group-lies size first last = by-test _ refl
  where
    by-test : (b : Bool) → (nat_le 1 first && (nat_le first last && nat_le last (size + 1))) ≡ b
        → IfSome {T = ℕ × ℕ} (cond b (Some (first - 1, last - 1)) None) (λ g. (g.0 ≤ g.1) × (g.1 ≤ size))
    by-test true is =
        let outer = and_parts _ _ is in
        let inner = and_parts _ _ outer.1 in
        let low : 1 ≤ first = leb-true 1 first outer.0 in
        let ordered : first ≤ last = leb-true first last inner.0 in
        let high : last ≤ size + 1 = leb-true last (size + 1) inner.1 in
        let lies : (first - 1 ≤ last - 1) × (last - 1 ≤ size) =
        (omega (arith, ordered), omega (arith, low, ordered, high)) in
        lies
    by-test false is = tt

abbrev Lies : ℕ → Option (ℕ × ℕ) → Type 0
Lies size group = IfSome group (λ g. (g.0 ≤ g.1) × (g.1 ≤ size))

-- groups lie in the bytes
cells-lie : (size : ℕ) (cells : List ℕ) → LieWithin size (groups_of_cells size cells)
cells-lie size [] = All-nil (Lies size)
cells-lie size (first ∷ []) = All-nil (Lies size)
cells-lie size (first ∷ (last ∷ cells)) =
    All-cons (Lies size) (group_of_cells size first last) (groups_of_cells size cells) (group-lies size first last)
    (cells-lie size cells)

pub groups-lie : (start : ℕ) (hay : List ℕ) (s : ℕ × ℕ) (cells : List ℕ) → IsFrom start hay (Some s)
    → LieWithin (length hay) (Some s ∷ groups_of_cells (length hay) cells)
groups-lie start hay s cells from =
    All-cons (Lies (length hay)) (Some s) (groups_of_cells (length hay) cells) from.1 (cells-lie (length hay) cells)

pub text-groups-none : (r : Regex) (hay : List ℕ) (start : ℕ) → None ≡ regex_text_at r hay start
    → regex_text_groups_at r hay start ≡ []
text-groups-none r hay start none =
    groups-none (length hay) (group_count (regex_options r) (regex_patterns r)) (regex_found r hay start) none

-- ---- what finds groups

code : Coded (Option ((ℕ × ℕ) × List ℕ))
code = coded_option (coded× (coded× coded_ℕ coded_ℕ) (coded_list coded_ℕ))

-- the span and the cells are what is seen of a match
cells-seen : (o : Option Match) (s : ℕ × ℕ) (cells : List ℕ) (n : ℕ) → Some s ≡ option_map span o
    → IfSome o (λ m. cells ≡ group_cells m n) → Some (s, cells) ≡ option_map (captured n) o
cells-seen None s cells n is same = absurd (none-some s (sym is))
cells-seen (Some m) s cells n is same = ap₂ (λ a b. Some (a, b)) (same_Some s (span m) is) same

module _ (r : Regex) (hay : List ℕ) (start : ℕ) (bytes : (k : ℕ) → get_or hay k 0 < 256) (from : start ≤ length hay) where
  -- what finds groups finds where the expression matches
  capturing-finds : leftmost_match_at (meaning (regex_capturing r).hir) hay start ≡ regex_text_at r hay start
  capturing-finds = ∥∥₁_elim (arc_value r.shared).captures (Coded-set (coded_option (coded× coded_ℕ coded_ℕ)) _ _)
      (λ f. f.at hay start (λ k d inside. rw (get_or_default hay k d 0 inside) (bytes k)) from)

  -- and captures what it does
  capturing-captures : (count : ℕ) → option_map (captured count) (find (meaning (regex_capturing r).hir) hay start)
      ≡ option_map (captured count) (regex_found r hay start)
  capturing-captures count = ∥∥₁_elim (arc_value r.shared).captures (Coded-set code _ _)
      (λ f. f.captures count hay start (λ k d inside. rw (get_or_default hay k d 0 inside) (bytes k)) from)

  -- the groups, by what is seen of the match that is found
  pub text-groups : (s : ℕ × ℕ) (cells : List ℕ) (size : ℕ) → size ≡ (regex_capturing r).dfa.nfa.slot_count - 2
      → Some (s, cells) ≡ option_map (captured size) (leftmost (regex_capturing r) hay start)
      → regex_text_groups_at r hay start ≡ Some s ∷ groups_of_cells (length hay) cells
  text-groups s cells size sized seen =
      let count = group_count (regex_options r) (regex_patterns r) in
      let width : size ≡ 2 * count - 2 = omega (arith, sized, slots-of r) in
      let found : option_map (captured (2 * count - 2)) (regex_found r hay start) ≡ Some (s, cells) =
      sym (capturing-captures (2 * count - 2))
      ∙ sym (subst (λ n. Some (s, cells) ≡ option_map (captured n) (leftmost (regex_capturing r) hay start)) width seen) in
      groups-of-seen (length hay) count (regex_found r hay start)
      ∙ ap (λ o. option_map_or (of_captured (length hay)) o []) found

  module _ (p : Program) where
    along : ∥ p ≡ regex_capturing r ∥₁ → (n : ℕ) → option_map (captured n) (leftmost p hay start)
        ≡ option_map (captured n) (leftmost (regex_capturing r) hay start)
    along same n = ∥∥₁_elim same (Coded-set code _ _)
        (λ e. ap (λ (x : Program). option_map (captured n) (leftmost x hay start)) e)

    pub slots-along : ∥ p ≡ regex_capturing r ∥₁ → p.dfa.nfa.slot_count ≡ (regex_capturing r).dfa.nfa.slot_count
    slots-along same = ∥∥₁_elim same (Coded-set coded_ℕ _ _) (λ e. ap (λ (x : Program). x.dfa.nfa.slot_count) e)

    -- what a searcher sees that finds groups itself
    pub searcher-sees : ∥ p ≡ regex_capturing r ∥₁ → (s : ℕ × ℕ) (cells : List ℕ) (n : ℕ)
        → Some s ≡ option_map span (leftmost p hay start)
        → IfSome (leftmost p hay start) (λ m. cells ≡ group_cells m n)
        → Some (s, cells) ≡ option_map (captured n) (leftmost (regex_capturing r) hay start)
    searcher-sees same s cells n is groups = cells-seen (leftmost p hay start) s cells n is groups ∙ along same n

    -- the span of the match, of which the groups are looked for
    pub finder-spans : ∥ p ≡ regex_capturing r ∥₁ → (s : ℕ × ℕ) → Some s ≡ regex_text_at r hay start
        → option_map span (leftmost p hay start) ≡ Some (s.0, s.1)
    finder-spans same s is =
        ∥∥₁_elim same (Coded-set (coded_option (coded× coded_ℕ coded_ℕ)) _ _)
        (λ e. ap (λ (x : Program). option_map span (leftmost x hay start)) e)
        ∙ (capturing-finds ∙ sym is)

    -- what is seen of it then
    pub finder-sees : ∥ p ≡ regex_capturing r ∥₁ → (s : ℕ × ℕ) (cells : List ℕ) (n : ℕ)
        → Some s ≡ regex_text_at r hay start
        → IfSome (first_match p.dfa.nfa hay s.1 s.0 s.0) (λ m. cells ≡ group_cells m n)
        → Some (s, cells) ≡ option_map (captured n) (leftmost (regex_capturing r) hay start)
    finder-sees same s cells n is groups =
        let found = finder-spans same s is in
        let spans = first_match_span p hay start s.0 s.1 found in
        cells-seen (leftmost p hay start) s cells n (sym found)
        (subst (λ o. IfSome o (λ m. cells ≡ group_cells m n)) spans.2 groups)
        ∙ along same n

-- which program finds the groups of an engine
module _ (engine : Engine) where
  pub searcher-captures : engine.groups ≡ None
      → ∥ engine.searcher.program.now ≡ regex_capturing (engine_regex engine) ∥₁
  searcher-captures none = ∥∥₁_map₂ engine.same engine.captures (λ same captures. same
      ∙ sym (subst (λ g. MatchOption g (regex_capturing (engine_regex engine) ≡ regex_program (engine_regex engine))
      (λ finder. finder.program.now ≡ regex_capturing (engine_regex engine))) none captures))

  pub finder-captures : (finder : GroupFinder) → engine.groups ≡ Some finder
      → ∥ finder.program.now ≡ regex_capturing (engine_regex engine) ∥₁
  finder-captures finder is = ∥∥₁_map engine.captures (λ captures.
      subst (λ g. MatchOption g (regex_capturing (engine_regex engine) ≡ regex_program (engine_regex engine))
      (λ it. it.program.now ≡ regex_capturing (engine_regex engine))) is captures)

-- the names of the groups of what was read
names-in : (o : Option (Nested Re × Names)) (most : ℕ) (a : Re) (m : Names)
    → IsSomeAnd o (λ (re, names). (re.depth ≤ most) × SameCaptures a re.value × (m ≡ names)
    × (captures_in a ≤ length m))
    → m ≡ names_in o
names-in None most a m p = absurd p
names-in (Some it) most a m p = p.2

pub names-read : (config : Config) (text : List ℕ) (hir : Hir) (names : Names) → Reads config text hir names
    → names ≡ names_in (read config (chars text))
unfolding Reads
names-read config text hir names p =
    names-in (read config (chars text)) config.nest_limit (meaning hir) names p

-- Arguments that are read one after another.
use Rattle.std.proofs.Common.{◌≡◌, ℕ, List, [], ◌∷◌, length, refl, sym, ap, subst, ◌∙◌, inl, inr, Iter}
use Rattle.std.specs.Prelude.{Bool, true, false, ◌||◌, ◌⊎◌, ◌↔◌, codes, String, Option, Some, None, Result, Ok, Err}
use Rattle.std.specs.Prelude.{IfOk, if◌then◌else◌}
use Rattle.std.specs.Prelude.{MatchOption, string_bytes}
use Rattle.std.specs.Bool.{Decides}
use Rattle.std.specs.Borrow.{Bor}
use Rattle.std.specs.Global.{Global}
use Rattle.std.specs.Option.{ok_or, option_and_then, option_map, option_or, unwrap_or}
use Rattle.std.specs.Str.{bytes_eq}
use Rattle.std.proofs.Math.Bool.{or-false}
use Rattle.std.proofs.lemmas.Slice.Eq.{bytes_eq-Decides}
use Rattle.lgrep_cli.specs.declared.options.Options.{Options}
use Rattle.lgrep_cli.specs.declared.options.OptionsFault.{OptionsFault}
use Rattle.lgrep_cli.specs.declared.options.OptionsFault.TheVariants.{Usage, Memory}
use Rattle.lgrep_cli.specs.CommandLine.{Request, AreLast, AreOptionsOf, AskFor, bare, is_dashed, operands, operands_in}
use Rattle.lgrep_cli.specs.CommandLine.{operands_of}
use Rattle.lgrep_cli.specs.CommandLine.{with_number, request_of, text_of, texts, with_invert, with_multi_line}
use Rattle.lgrep_cli.specs.CommandLine.{with_passthru, with_count}
use Rattle.lgrep_cli.specs.CommandLine.{with_after, with_before, with_max}
use Rattle.lgrep_cli.specs.Numerals.{number_of}

-- what a request comes to
pub record Values : Type 0 where
  pub invert : Bool
  pub multi_line : Bool
  pub after : ℕ
  pub before : ℕ
  pub passthru : Bool
  pub max : Option ℕ
  pub count : Bool
  pub literal : List ℕ
  pub path : Option (List ℕ)

abbrev pub settled : Request → Values
settled request = record {
  invert = request.invert;
  multi_line = request.multi_line;
  after = unwrap_or request.after 0;
  before = unwrap_or request.before 0;
  passthru = request.passthru;
  max = request.max;
  count = request.count;
  literal = request.literal;
  path = request.path;
}

-- what it comes to over options that come before it
abbrev pub over : Options → Request → Values
over options request = record {
  invert = request.invert || options.invert;
  multi_line = request.multi_line || options.multi_line;
  after = unwrap_or request.after options.after;
  before = unwrap_or request.before options.before;
  passthru = request.passthru || options.passthru;
  max = option_or request.max options.max;
  count = request.count || options.count;
  literal = request.literal;
  path = request.path;
}

-- what all arguments ask for is what the later ones ask for, over these options
pub record IsRead (all later : List (String Global)) (options : Options) : Type 0 where
  pub same : option_map settled (request_of (texts all)) ≡ option_map (over options) (request_of (texts later))

option_map-same : {A B : Type 0} → (f g : A → B) → ((x : A) → f x ≡ g x) → (o : Option A) → option_map f o
    ≡ option_map g o
option_map-same f g same None = refl
option_map-same f g same (Some x) = ap Some (same x)

option_map-map : {A B C : Type 0} → (f : B → C) (g : A → B) (o : Option A) → option_map f (option_map g o)
    ≡ option_map (λ x. f (g x)) o
option_map-map f g None = refl
option_map-map f g (Some x) = refl

or-true : (b : Bool) → (b || true) ≡ true
or-true true = refl
or-true false = refl

option_or-none : {A : Type 0} → (o : Option A) → option_or o None ≡ o
option_or-none None = refl
option_or-none (Some x) = refl

option_or-some : (o : Option ℕ) (n : ℕ) → Some (unwrap_or o n) ≡ option_or o (Some n)
option_or-some None n = refl
option_or-some (Some x) n = refl

-- nothing is read yet
pub read-none : (all : List (String Global)) (options : Options) → AreOptionsOf (bare []) options
    → IsRead all all options
read-none all options none = record { same = option_map-same settled (over options) unset (request_of (texts all)) }
  where
    unset : (request : Request) → settled request ≡ over options request
    unset request = rw (
      none.invert,
      none.multi_line,
      none.after,
      none.before,
      none.passthru,
      none.max,
      none.count,
      or-false request.invert,
      or-false request.multi_line,
      or-false request.passthru,
      or-false request.count,
      option_or-none request.max,
    ) refl

-- one more option
read-option : (all before later : List (String Global)) (options new : Options) (set : Request → Request)
    → request_of (texts before) ≡ option_map set (request_of (texts later))
    → ((request : Request) → over options (set request) ≡ over new request) → IsRead all before options
    → IsRead all later new
read-option all before later options new set is same read = record {
  same =
      read.same ∙ (ap (λ r. option_map (over options) r) is
      ∙ (option_map-map (over options) set (request_of (texts later))
      ∙ option_map-same (λ r. over options (set r)) (over new) same (request_of (texts later))));
}

-- the next argument is read, if there is one
abbrev pub IsNext : Iter (String Global) → Option (Bor (String Global)) → Iter (String Global) → Type 0
IsNext before read after = MatchOption read ((length before.rest.now ≡ 0) × (after ≡ before))
    (λ argument. before.rest.now ≡ argument.now ∷ after.rest.now)

-- a flag sets this
abbrev pub IsFlag : List ℕ → (Request → Request) → Type 0
IsFlag flag set = (later : List (List ℕ)) → request_of (flag ∷ later) ≡ option_map set (request_of later)

flag-read : (all before later : List (String Global)) (argument : String Global) (options new : Options) (flag : List ℕ)
    (set : Request → Request) → IsFlag flag set → ((request : Request) → over options (set request) ≡ over new request)
    → before ≡ argument ∷ later → string_bytes argument ≡ flag → IsRead all before options → IsRead all later new
flag-read all before later argument options new flag set is same split flagged read =
    read-option all before later options new set (ap (λ xs. request_of (texts xs)) split
    ∙ (ap (λ a. request_of (a ∷ texts later)) flagged ∙ is (texts later))) same read

invert-flag : IsFlag (codes "-v") with_invert
invert-flag [] = refl
invert-flag (next ∷ later) = refl

multi_line-flag : IsFlag (codes "-U") with_multi_line
multi_line-flag [] = refl
multi_line-flag (next ∷ later) = refl

passthru-flag : IsFlag (codes "--passthru") with_passthru
passthru-flag [] = refl
passthru-flag (next ∷ later) = refl

count-flag : IsFlag (codes "-c") with_count
count-flag [] = refl
count-flag (next ∷ later) = refl

pub invert-read : (all before later : List (String Global)) (argument : String Global) (options : Options) → before
    ≡ argument ∷ later
    → string_bytes argument ≡ codes "-v" → IsRead all before options
    → IsRead all later (record options { invert = true })
invert-read all before later argument options = flag-read all before later argument options
    (record options { invert = true })
    (codes "-v") with_invert invert-flag (λ request. rw (or-true request.invert) refl)

pub multi_line-read : (all before later : List (String Global)) (argument : String Global) (options : Options)
    → before ≡ argument ∷ later → string_bytes argument ≡ codes "-U" → IsRead all before options
    → IsRead all later (record options { multi_line = true })
multi_line-read all before later argument options = flag-read all before later argument options
    (record options { multi_line = true }) (codes "-U") with_multi_line multi_line-flag
    (λ request. rw (or-true request.multi_line) refl)

pub passthru-read : (all before later : List (String Global)) (argument : String Global) (options : Options)
    → before ≡ argument ∷ later → string_bytes argument ≡ codes "--passthru" → IsRead all before options
    → IsRead all later (record options { passthru = true })
passthru-read all before later argument options = flag-read all before later argument options
    (record options { passthru = true })
    (codes "--passthru") with_passthru passthru-flag (λ request. rw (or-true request.passthru) refl)

pub count-read : (all before later : List (String Global)) (argument : String Global) (options : Options) → before
    ≡ argument ∷ later
    → string_bytes argument ≡ codes "-c" → IsRead all before options
    → IsRead all later (record options { count = true })
count-read all before later argument options = flag-read all before later argument options
    (record options { count = true })
    (codes "-c") with_count count-flag (λ request. rw (or-true request.count) refl)

-- an option needs a number
pub record NeedsNumber (flag : List ℕ) (set : ℕ → Request → Request) : Type 0 where
  pub alone : request_of (flag ∷ []) ≡ None
  pub more : (next : List ℕ) (later : List (List ℕ)) → request_of (flag ∷ next ∷ later)
      ≡ with_number set (number_of next) (request_of later)

pub after-needs : NeedsNumber (codes "-A") with_after
after-needs = record { alone = refl; more = λ next later. refl }

pub before-needs : NeedsNumber (codes "-B") with_before
before-needs = record { alone = refl; more = λ next later. refl }

pub max-needs : NeedsNumber (codes "-m") with_max
max-needs = record { alone = refl; more = λ next later. refl }

-- the number after an option, as it is read
abbrev pub number_read : Option (Bor (String Global)) → Result ℕ OptionsFault
number_read read = ok_or (option_and_then number_of (text_of read)) Usage

ok-some : (o : Option ℕ) (n : ℕ) → ok_or o Usage ≡ Ok n → o ≡ Some n
ok-some None n is = absurd (cc)
ok-some (Some m) n is = let same : m ≡ n = cc in ap Some same

err-none : (o : Option ℕ) (e : OptionsFault) → ok_or o Usage ≡ Err e → (o ≡ None) × (e ≡ Usage)
err-none None e is = let same : e ≡ Usage = cc in (refl, same)
err-none (Some m) e is = absurd (cc)

empty : (arguments : List (String Global)) → length arguments ≡ 0 → arguments ≡ []
empty [] none = refl
empty (argument ∷ arguments) none = absurd (cc)

number-option : (before : List (String Global)) (argument : String Global) (mid after : Iter (String Global))
    (read : Option (Bor (String Global))) (flag : List ℕ) (set : ℕ → Request → Request) (n : ℕ) → NeedsNumber flag set
    → before ≡ argument ∷ mid.rest.now → string_bytes argument ≡ flag → IsNext mid read after → number_read read ≡ Ok n
    → request_of (texts before) ≡ option_map (set n) (request_of (texts after.rest.now))
number-option before argument mid after None flag set n needs split flagged next is = absurd (cc)
number-option before argument mid after (Some text) flag set n needs split flagged next is =
    ap (λ xs. request_of (texts xs)) (split ∙ ap (λ xs. argument ∷ xs) next)
    ∙ (ap (λ a. request_of (a ∷ string_bytes text.now ∷ texts after.rest.now)) flagged
    ∙ (needs.more (string_bytes text.now) (texts after.rest.now)
    ∙ ap (λ o. with_number set o (request_of (texts after.rest.now)))
    (ok-some (number_of (string_bytes text.now)) n is)))

pub after-read : (all before : List (String Global)) (argument : String Global) (mid after : Iter (String Global))
    (read : Option (Bor (String Global))) (options : Options) (n : ℕ)
    → before ≡ argument ∷ mid.rest.now → string_bytes argument ≡ codes "-A" → IsNext mid read after → number_read read
    ≡ Ok n
    → IsRead all before options → IsRead all after.rest.now (record options { after = n })
after-read all before argument mid after read options n split flagged next is =
    read-option all before after.rest.now options (record options { after = n }) (with_after n)
    (number-option before argument mid after read (codes "-A") with_after n after-needs split flagged next is)
    (λ request. refl)

pub before-read : (all before : List (String Global)) (argument : String Global) (mid after : Iter (String Global))
    (read : Option (Bor (String Global))) (options : Options) (n : ℕ)
    → before ≡ argument ∷ mid.rest.now → string_bytes argument ≡ codes "-B" → IsNext mid read after → number_read read
    ≡ Ok n
    → IsRead all before options → IsRead all after.rest.now (record options { before = n })
before-read all before argument mid after read options n split flagged next is =
    read-option all before after.rest.now options (record options { before = n }) (with_before n)
    (number-option before argument mid after read (codes "-B") with_before n before-needs split flagged next is)
    (λ request. refl)

pub max-read : (all before : List (String Global)) (argument : String Global) (mid after : Iter (String Global))
    (read : Option (Bor (String Global))) (options : Options) (n : ℕ)
    → before ≡ argument ∷ mid.rest.now → string_bytes argument ≡ codes "-m" → IsNext mid read after → number_read read
    ≡ Ok n
    → IsRead all before options → IsRead all after.rest.now (record options { max = Some n })
max-read all before argument mid after read options n split flagged next is =
    read-option all before after.rest.now options (record options { max = Some n }) (with_max n)
    (number-option before argument mid after read (codes "-m") with_max n max-needs split flagged next is)
    (λ request. rw (option_or-some request.max n) refl)

-- what a usage error is known by
abbrev pub IsUsage : List (String Global) → Result Options OptionsFault → Type 0
IsUsage all result = (result ≡ Err Usage) ↔ (request_of (texts all) ≡ None)

map-none : {A B : Type 0} → (f : A → B) (o : Option A) → option_map f o ≡ None → o ≡ None
map-none f None is = refl
map-none f (Some x) is = absurd (cc)

-- the later arguments ask for nothing
pub read-usage : (all later : List (String Global)) (options : Options) (result : Result Options OptionsFault)
    → IsRead all later options → request_of (texts later) ≡ None → result ≡ Err Usage → IsUsage all result
read-usage all later options result read none is =
    let nothing = map-none settled (request_of (texts all)) (read.same ∙ ap (λ r. option_map (over options) r) none) in
    (λ _. nothing, λ _. is)

pub ended-usage : (all : List (String Global)) (before after : Iter (String Global)) (options : Options)
    → IsRead all before.rest.now options → IsNext before None after → IsUsage all (Err Usage)
ended-usage all before after options read ended = read-usage all before.rest.now options (Err Usage) read
    (ap (λ xs. request_of (texts xs)) (empty before.rest.now ended.0)) refl

-- an option without its number
pub number-usage : (all before : List (String Global)) (argument : String Global) (mid after : Iter (String Global))
    (read : Option (Bor (String Global))) (options : Options) (flag : List ℕ) (set : ℕ → Request → Request)
    (error : OptionsFault)
    (result : Result Options OptionsFault)
    → NeedsNumber flag set → before ≡ argument ∷ mid.rest.now → string_bytes argument ≡ flag → IsNext mid read after
    → number_read read ≡ Err error → result ≡ Err error → IsRead all before options → IsUsage all result
number-usage all before argument mid after None options flag set error result needs split flagged next is same reading =
    let error_is : error ≡ Usage = cc in
    read-usage all before options result reading
    (ap (λ xs. request_of (texts xs)) (split ∙ ap (λ xs. argument ∷ xs) (empty mid.rest.now next.0))
    ∙ (ap (λ a. request_of (a ∷ [])) flagged ∙ needs.alone)) (same ∙ ap Err error_is)
number-usage all before argument mid after (Some text) options flag set error result needs split flagged next is same
    reading =
    let none = err-none (number_of (string_bytes text.now)) error is in
    read-usage all before options result reading
    (ap (λ xs. request_of (texts xs)) (split ∙ ap (λ xs. argument ∷ xs) next)
    ∙ (ap (λ a. request_of (a ∷ string_bytes text.now ∷ texts after.rest.now)) flagged
    ∙ (needs.more (string_bytes text.now) (texts after.rest.now)
    ∙ ap (λ o. with_number set o (request_of (texts after.rest.now))) none.0)))
    (same ∙ ap Err none.1)

-- an argument that isn't an option
other : (argument flag : List ℕ) → (argument ≡ flag → ⊥) → bytes_eq argument flag ≡ false
other argument flag differs = go (bytes_eq argument flag) (bytes_eq-Decides argument flag)
  where
    go : (b : Bool) → Decides b (argument ≡ flag) → b ≡ false
    go true same = absurd (differs (same.0 refl))
    go false h = refl

-- none of the options
pub record IsNoOption (argument : List ℕ) : Type 0 where
  pub invert : argument ≡ codes "-v" → ⊥
  pub multi_line : argument ≡ codes "-U" → ⊥
  pub passthru : argument ≡ codes "--passthru" → ⊥
  pub count : argument ≡ codes "-c" → ⊥
  pub after : argument ≡ codes "-A" → ⊥
  pub before : argument ≡ codes "-B" → ⊥
  pub max : argument ≡ codes "-m" → ⊥
  pub end : argument ≡ codes "--" → ⊥

no-option : (argument : List ℕ) (later : List (List ℕ)) → IsNoOption argument
    → request_of (argument ∷ later) ≡ (if is_dashed argument then None else operands_of (argument ∷ later))
no-option argument [] otherwise = refl
no-option argument (next ∷ later) otherwise =
    rw (
      other argument (codes "-v") otherwise.invert,
      other argument (codes "-U") otherwise.multi_line,
      other argument (codes "--passthru") otherwise.passthru,
      other argument (codes "-c") otherwise.count,
      other argument (codes "-A") otherwise.after,
      other argument (codes "-B") otherwise.before,
      other argument (codes "-m") otherwise.max,
      other argument (codes "--") otherwise.end,
    ) refl

pub dashed-usage : (all before later : List (String Global)) (argument : String Global) (options : Options) → before
    ≡ argument ∷ later
    → is_dashed (string_bytes argument) ≡ true → IsNoOption (string_bytes argument) → IsRead all before options
    → IsUsage all (Err Usage)
dashed-usage all before later argument options split dashed otherwise reading =
    read-usage all before options (Err Usage) reading (ap (λ xs. request_of (texts xs)) split
    ∙ (no-option (string_bytes argument) (texts later) otherwise ∙ rw dashed refl)) refl

marked-operands : (later : List (List ℕ)) → request_of (codes "--" ∷ later) ≡ operands_of later
marked-operands [] = refl
marked-operands (next ∷ later) = refl

-- what the end of a command line gives
pub record IsEnd (all : List (String Global)) (result : Result Options OptionsFault) : Type 0 where
  pub options : IfOk result (AskFor all)
  pub usage : IsUsage all result

-- what `with_operands` ensures, if these are the arguments after the options
pub record IsWithOperands (options : Options) (given : List (List ℕ)) (result : Result Options OptionsFault) : Type 0
  where
    pub same : IfOk result (λ new. new ≡ record options { literal = new.literal; path = new.path })
    pub are : IfOk result (λ new. operands_in new ≡ given)
    pub usage : (result ≡ Err Usage) ↔ (operands_of given ≡ None)

operands-request : (literal : List ℕ) (path : Option (List ℕ))
    → operands_of (operands literal path) ≡ Some (record (bare literal) { path = path })
operands-request literal None = refl
operands-request literal (Some path) = refl

-- the options are those of a request that comes to their values
same-options : (request : Request) (options new : Options) → new
    ≡ record options { literal = new.literal; path = new.path }
    → settled request ≡ over options (record (bare (string_bytes new.literal))
    { path = option_map string_bytes new.path })
    → AreOptionsOf request new
same-options request options new same values = record {
  invert = ap (λ (o : Options). o.invert) same ∙ sym (ap (λ (v : Values). v.invert) values);
  multi_line = ap (λ (o : Options). o.multi_line) same ∙ sym (ap (λ (v : Values). v.multi_line) values);
  after = ap (λ (o : Options). o.after) same ∙ sym (ap (λ (v : Values). v.after) values);
  before = ap (λ (o : Options). o.before) same ∙ sym (ap (λ (v : Values). v.before) values);
  passthru = ap (λ (o : Options). o.passthru) same ∙ sym (ap (λ (v : Values). v.passthru) values);
  max = ap (λ (o : Options). o.max) same ∙ sym (ap (λ (v : Values). v.max) values);
  count = ap (λ (o : Options). o.count) same ∙ sym (ap (λ (v : Values). v.count) values);
  literal = sym (ap (λ (v : Values). v.literal) values);
  path = sym (ap (λ (v : Values). v.path) values);
}

settled-asked : (asked : Option Request) (values : Values) → option_map settled asked ≡ Some values
    → (request : Request) × (asked ≡ Some request) × (settled request ≡ values)
settled-asked None values is = absurd (cc)
settled-asked (Some request) values is = (request, refl, let same : settled request ≡ values = cc in same)

-- the arguments after the options end the command line
operands-end : (all : List (String Global)) (given : List (List ℕ)) (options : Options)
    (result : Result Options OptionsFault)
    → option_map settled (request_of (texts all)) ≡ option_map (over options) (operands_of given)
    → IsWithOperands options given result → IsEnd all result
operands-end all given options (Err Usage) same ends =
    let none = map-none settled (request_of (texts all))
    (same ∙ ap (λ o. option_map (over options) o) (ends.usage.0 refl)) in
    record { options = tt; usage = (λ _. none, λ _. refl) }
operands-end all given options (Err Memory) same ends =
    record {
      options = tt;
      usage = (
        λ e. absurd (cc),
        λ none. ends.usage.1 (map-none (over options) (operands_of given)
            (sym same ∙ ap (λ o. option_map settled o) none)),
      );
    }
operands-end all given options (Ok new) same ends =
    let path = option_map string_bytes new.path in
    let values = over options (record (bare (string_bytes new.literal)) { path = path }) in
    let asked = settled-asked (request_of (texts all)) values (same ∙ ap (λ o. option_map (over options) o)
    (sym (ap operands_of ends.are) ∙ operands-request (string_bytes new.literal) path)) in
    record {
      options = (asked.0, asked.1, same-options asked.0 options new ends.same asked.2);
      usage = (λ e. absurd (cc), λ none. let never : Some asked.0 ≡ None = sym asked.1 ∙ none in absurd (cc));
    }

pub undashed-end : (all before later rest : List (String Global)) (argument : Bor (String Global)) (options : Options)
    (result : Result Options OptionsFault) → before ≡ argument.now ∷ later → is_dashed (string_bytes argument.now)
    ≡ false
    → IsNoOption (string_bytes argument.now) → IsRead all before options → rest ≡ later
    → IsWithOperands options (texts (argument.now ∷ rest)) result → IsEnd all result
undashed-end all before later rest argument options result split undashed otherwise reading same ends =
    operands-end all (texts (argument.now ∷ rest)) options result
    (reading.same ∙ ap (λ r. option_map (over options) r) (ap (λ xs. request_of (texts xs))
    (split ∙ ap (λ xs. argument.now ∷ xs) (sym same))
    ∙ (no-option (string_bytes argument.now) (texts rest) otherwise ∙ rw undashed refl))) ends

marked-asked : (all before later : List (String Global)) (argument : String Global) (options : Options)
    → before ≡ argument ∷ later → string_bytes argument ≡ codes "--" → IsRead all before options
    → option_map settled (request_of (texts all)) ≡ option_map (over options) (operands_of (texts later))
marked-asked all before later argument options split marked reading =
    reading.same ∙ ap (λ r. option_map (over options) r) (ap (λ xs. request_of (texts xs)) split
    ∙ (ap (λ a. request_of (a ∷ texts later)) marked ∙ marked-operands (texts later)))

pub marked-end : (all before later rest : List (String Global)) (argument : String Global) (mid : List (String Global))
    (literal : Bor (String Global)) (options : Options) (result : Result Options OptionsFault)
    → before ≡ argument ∷ mid → string_bytes argument ≡ codes "--" → IsRead all before options
    → mid ≡ literal.now ∷ later → rest ≡ later
    → IsWithOperands options (texts (literal.now ∷ rest)) result → IsEnd all result
marked-end all before later rest argument mid literal options result split marked reading next same ends =
    operands-end all (texts (literal.now ∷ rest)) options result
    (marked-asked all before mid argument options split marked reading
    ∙ ap (λ xs. option_map (over options) (operands_of (texts xs))) (next ∙ ap (λ xs. literal.now ∷ xs) (sym same)))
    ends

-- the literal and the path are the last arguments
either : (b : Bool) (x y : Option Request) (request : Request) → (if b then x else y) ≡ Some request
    → (x ≡ Some request) ⊎ (y ≡ Some request)
either true x y request is = inl is
either false x y request is = inr is

abbrev asked_operands : Request → List (List ℕ)
asked_operands request = operands request.literal request.path

last-more : (argument : List ℕ) (last later : List (List ℕ)) → AreLast last later → AreLast last (argument ∷ later)
last-more argument last later are = record { front = argument ∷ are.front; split = ap (λ xs. argument ∷ xs) are.split }

last-set : (set : Request → Request) (arguments : List (List ℕ))
    → ((request : Request) → asked_operands (set request) ≡ asked_operands request)
    → (asked : Option Request) → ((request : Request) → asked ≡ Some request
    → AreLast (asked_operands request) arguments)
    → (request : Request) → option_map set asked ≡ Some request → AreLast (asked_operands request) arguments
last-set set arguments keeps None last request is = absurd (cc)
last-set set arguments keeps (Some later) last request is =
    let same : set later ≡ request = cc in
    subst (λ given. AreLast given arguments) (sym (keeps later) ∙ ap asked_operands same) (last later refl)

last-numbered : (set : ℕ → Request → Request) (arguments : List (List ℕ))
    → ((n : ℕ) (request : Request) → asked_operands (set n request) ≡ asked_operands request) → (number : Option ℕ)
    → (asked : Option Request) → ((request : Request) → asked ≡ Some request
    → AreLast (asked_operands request) arguments)
    → (request : Request) → with_number set number asked ≡ Some request → AreLast (asked_operands request) arguments
last-numbered set arguments keeps None asked last request is = absurd (cc)
last-numbered set arguments keeps (Some n) asked last request is = last-set (set n) arguments (keeps n) asked last
    request is

operands-last : (arguments : List (List ℕ)) (request : Request) → operands_of arguments ≡ Some request
    → AreLast (asked_operands request) arguments
operands-last [] request is = absurd (cc)
operands-last (literal ∷ []) request is =
    let same : bare literal ≡ request = cc in record { front = []; split = ap asked_operands same }
operands-last (literal ∷ path ∷ []) request is =
    let same : record (bare literal) { path = Some path } ≡ request = cc in
    record { front = []; split = ap asked_operands same }
operands-last (literal ∷ path ∷ next ∷ later) request is = absurd (cc)

undashed-last : (argument : List ℕ) (later : List (List ℕ)) (request : Request)
    → (if is_dashed argument then None else operands_of (argument ∷ later)) ≡ Some request
    → AreLast (asked_operands request) (argument ∷ later)
undashed-last argument later request is = elim (either (is_dashed argument) None _ request is) [
  | inl never ↦ absurd (cc)
  | inr is ↦ operands-last (argument ∷ later) request is
]

request-last : (arguments : List (List ℕ)) (request : Request) → request_of arguments ≡ Some request
    → AreLast (asked_operands request) arguments
request-last [] request is = absurd (cc)
request-last (argument ∷ []) request is = undashed-last argument [] request is
request-last (argument ∷ next ∷ later) request is =
    let more = last-more argument (asked_operands request) (next ∷ later) in
    let numbered = λ (are : AreLast (asked_operands request) later).
    more (last-more next (asked_operands request) later are) in
    elim (either (bytes_eq argument (codes "-v")) _ _ request is) [
      | inl is ↦ more (last-set with_invert (next ∷ later) (λ r. refl) (request_of (next ∷ later))
          (request-last (next ∷ later))
          request is)
      | inr is ↦ elim (either (bytes_eq argument (codes "-U")) _ _ request is) [
        | inl is ↦ more (last-set with_multi_line (next ∷ later) (λ r. refl) (request_of (next ∷ later))
            (request-last (next ∷ later)) request is)
        | inr is ↦ elim (either (bytes_eq argument (codes "--passthru")) _ _ request is) [
          | inl is ↦ more (last-set with_passthru (next ∷ later) (λ r. refl) (request_of (next ∷ later))
              (request-last (next ∷ later)) request is)
          | inr is ↦ elim (either (bytes_eq argument (codes "-c")) _ _ request is) [
            | inl is ↦ more (last-set with_count (next ∷ later) (λ r. refl) (request_of (next ∷ later))
                (request-last (next ∷ later)) request is)
            | inr is ↦ elim (either (bytes_eq argument (codes "-A")) _ _ request is) [
              | inl is ↦ numbered (last-numbered with_after later (λ n r. refl) (number_of next) (request_of later)
                  (request-last later) request is)
              | inr is ↦ elim (either (bytes_eq argument (codes "-B")) _ _ request is) [
                | inl is ↦ numbered (last-numbered with_before later (λ n r. refl) (number_of next) (request_of later)
                    (request-last later) request is)
                | inr is ↦ elim (either (bytes_eq argument (codes "-m")) _ _ request is) [
                  | inl is ↦ numbered (last-numbered with_max later (λ n r. refl) (number_of next) (request_of later)
                      (request-last later) request is)
                  | inr is ↦ elim (either (bytes_eq argument (codes "--")) _ _ request is) [
                    | inl is ↦ more (operands-last (next ∷ later) request is)
                    | inr is ↦ undashed-last argument (next ∷ later) request is
                  ]
                ]
              ]
            ]
          ]
        ]
      ]
    ]

-- the literal and the path of what is asked for are the last arguments
pub asked-last : (arguments : List (String Global)) (options : Options) → AskFor arguments options
    → AreLast (operands_in options) (texts arguments)
asked-last arguments options (request, is, are) = subst (λ given. AreLast given (texts arguments))
    (rw (are.literal, are.path) refl) (request-last (texts arguments) request is)

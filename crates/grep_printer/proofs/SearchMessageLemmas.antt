-- What the text of a search has to do with the messages of its calls.
use Rattle.std.proofs.Common.{◌≡◌, ◌≢◌, ◌∙◌, ℕ, List, [], ◌∷◌, ◌++◌, Bool, true, false, Option, Some}
use Rattle.std.proofs.Common.{ap, append_assoc, map, refl, subst, sym}
use Rattle.std.proofs.lemmas.List.{append-nil, same_from_push}
use Rattle.std.proofs.lemmas.List.Elements.{All-append, All-cons, All-head, All-map, All-nil, All-tail, All-weaker}
use Rattle.std.specs.Borrow.{Bor}
use Rattle.std.specs.List.{AllZip, flat_map, fold, list_any}
use Rattle.std.specs.Prelude.{All, ◌&&◌, ◌||◌, if◌then◌else◌, not}
use Rattle.json.specs.Json.{Json, document}
use Rattle.grep_matcher.proofs.LineLemmas.{lines-end, lines-inner}
use Rattle.grep_matcher.specs.Lines.{lines, onto_first}
use Rattle.grep_searcher.specs.Plans.{Call, begins, matches, context, breaks, binary_data, finishes}
use Rattle.grep_printer.proofs.ReadBackLemmas.{messages-read-back}
use Rattle.grep_printer.proofs.ReportToldLemmas.{begin-other, messages-tell}
use Rattle.grep_printer.specs.Formats.{PrintedCall, Scene, printed_by, printed_with}
use Rattle.grep_printer.specs.Hyperlinks.{shown_path}
use Rattle.grep_printer.specs.JsonLaws.{IsLineOf, IsReport, IsSameReport, IsWordRange, Reported}
use Rattle.grep_printer.specs.JsonLaws.{message_of_report}
use Rattle.grep_printer.specs.JsonMessages.{begin_json, json_line}
use Rattle.grep_printer.specs.JsonTexts.{json_progress, json_rules, json_text, with_text}
use Rattle.grep_printer.specs.SearchMessages.{AreReadBack, HasPrintedWords, HasWords, SearchesAreReadBack, SearchesTell}
use Rattle.grep_printer.specs.ReplacerTexts.{TextAt}
use Rattle.grep_printer.specs.SearchMessages.{CallTextAt, messages_of, opens, report_in, reports_of, texts_of}
use Rattle.grep_printer.specs.declared.json_printer.JsonProgress.{JsonProgress}

-- ---- the lines of some messages, one after another

-- bytes without a terminator, and one, are the first line
first-line : (t : ℕ) (text rest : List ℕ) → All (λ b. b ≢ t) text
    → lines t ((text ++ t ∷ []) ++ rest) ≡ (text ++ t ∷ []) ∷ lines t rest
first-line t [] rest lacks = lines-end t t rest refl
first-line t (b ∷ text) rest lacks =
    lines-inner t b ((text ++ t ∷ []) ++ rest) (All-head (λ c. c ≢ t) b text lacks)
    ∙ ap (onto_first b) (first-line t text rest (All-tail (λ c. c ≢ t) b text lacks))

-- the line of each message is read as it
abbrev AreRead : List Json → Type 0
AreRead messages = All (λ m. IsLineOf m (json_line m)) messages

-- so they are the lines of all of them
lines-split : (messages : List Json) → AreRead messages
    → lines 10 (flat_map json_line messages) ≡ map json_line messages
lines-split [] are = refl
lines-split (message ∷ later) are =
    let first = All-head (λ m. IsLineOf m (json_line m)) message later are in
    let rest = flat_map json_line later in
    subst (λ line. lines 10 (line ++ rest) ≡ line ∷ lines 10 rest) (sym first.ended)
    (first-line 10 first.text rest first.unbroken)
    ∙ ap (λ ls. json_line message ∷ ls) (lines-split later (All-tail (λ m. IsLineOf m (json_line m)) message later are))

lines-zip : (messages : List Json) → AreRead messages → AllZip IsLineOf messages (map json_line messages)
lines-zip [] are = tt
lines-zip (message ∷ later) are = (
  All-head (λ m. IsLineOf m (json_line m)) message later are,
  lines-zip later (All-tail (λ m. IsLineOf m (json_line m)) message later are),
)

lines-read : (messages : List Json) (text : List ℕ) → text ≡ flat_map json_line messages → AreRead messages
    → AreReadBack messages text
lines-read messages text is are =
    let split = ap (lines 10) is ∙ lines-split messages are in
    record { joined = is; split = split; read = subst (AllZip IsLineOf messages) (sym split) (lines-zip messages are) }

-- a line is that of one message
line-tells : (a b : Json) (line : List ℕ) → IsLineOf a line → IsLineOf b line → a ≡ b
line-tells a b line first later =
    let texts = (same_from_push first.text later.text 10 10 (sym first.ended ∙ later.ended)).0 in
    let read : Some a ≡ Some b = sym first.read ∙ (ap document texts ∙ later.read) in
    cc

lines-tell : (first later : List Json) (ls : List (List ℕ)) → AllZip IsLineOf first ls → AllZip IsLineOf later ls
    → first ≡ later
lines-tell [] [] [] one two = refl
lines-tell [] [] (line ∷ ls) one two = absurd one
lines-tell [] (b ∷ later) [] one two = absurd two
lines-tell [] (b ∷ later) (line ∷ ls) one two = absurd one
lines-tell (a ∷ first) [] [] one two = absurd one
lines-tell (a ∷ first) [] (line ∷ ls) one two = absurd two
lines-tell (a ∷ first) (b ∷ later) [] one two = absurd one
lines-tell (a ∷ first) (b ∷ later) (line ∷ ls) one two =
    let head = line-tells a b line one.0 two.0 in let tail = lines-tell first later ls one.1 two.1 in cc

module _ {R : Type 0} (text_at : R → TextAt) (always : Bool) (replacer : R) (scene : Scene) where
  -- what matches would be replaced by
  abbrev texts : CallTextAt
  texts = text_at replacer scene.settings

  -- ---- the text of a search

  -- one call with its parts, and those after it
  text-more : (progress : JsonProgress) (call : Call) (parts : List (ℕ × ℕ))
      (later : List PrintedCall)
      → flat_map json_line (messages_of always (shown_path scene.path) texts progress.is_begun
      (record { call = call; parts = parts } ∷ later))
      ≡ json_text always scene (texts call) progress call parts
      ++ flat_map json_line (messages_of always (shown_path scene.path) texts (json_progress always scene (texts call) progress call parts).is_begun
      later)
  text-more progress begins parts later = go always progress.is_begun
    where
      go : (due begun : Bool)
          → flat_map json_line ((if not begun && (due || list_any (λ p. opens always p.call) later)
          then begin_json (shown_path scene.path) ∷ [] else []) ++ map message_of_report (reports_of (shown_path scene.path) texts later))
          ≡ (if due && not begun then json_line (begin_json (shown_path scene.path)) else [])
          ++ flat_map json_line (messages_of always (shown_path scene.path) texts
          (if due && not begun
          then with_text progress (if due && not begun then json_line (begin_json (shown_path scene.path)) else [])
          else record progress { is_begun = begun }).is_begun later)
      go true true = refl
      go true false = refl
      go false begun = refl
  text-more progress (matches number offset bytes around) parts later = go progress.is_begun
    where
      go : (begun : Bool)
          → flat_map json_line (messages_of always (shown_path scene.path) texts begun
          (record { call = matches number offset bytes around; parts = parts } ∷ later))
          ≡ json_text always scene (texts (matches number offset bytes around))
          (record progress { is_begun = begun }) (matches number offset bytes around) parts
          ++ flat_map json_line (messages_of always (shown_path scene.path) texts true later)
      go true = refl
      go false = sym (append_assoc (json_line (begin_json (shown_path scene.path))) _ _)
  text-more progress (context kind number offset bytes) parts later = go progress.is_begun
    where
      go : (begun : Bool)
          → flat_map json_line (messages_of always (shown_path scene.path) texts begun
          (record { call = context kind number offset bytes; parts = parts } ∷ later))
          ≡ json_text always scene (texts (context kind number offset bytes))
          (record progress { is_begun = begun }) (context kind number offset bytes) parts
          ++ flat_map json_line (messages_of always (shown_path scene.path) texts true later)
      go true = refl
      go false = sym (append_assoc (json_line (begin_json (shown_path scene.path))) _ _)
  text-more progress breaks parts later = refl
  text-more progress (binary_data offset) parts later = refl
  text-more progress (finishes count binary) parts later = refl

  -- no calls have no message
  messages-none : (begun : Bool) → messages_of always (shown_path scene.path) texts begun [] ≡ []
  messages-none true = refl
  messages-none false = refl

  -- all calls
  text-all : (calls : List PrintedCall) (progress : JsonProgress) (text : List ℕ)
      → (fold (printed_with (json_rules text_at) scene)
      (record {
        format = record { always_begin_end = always; replacer = replacer; progress = progress };
        text = text;
      }) calls).text
      ≡ text ++ flat_map json_line (messages_of always (shown_path scene.path) texts progress.is_begun calls)
  text-all [] progress text =
      sym (append-nil text)
      ∙ ap (λ ms. text ++ flat_map json_line ms) (sym (messages-none progress.is_begun))
  text-all (printed ∷ later) progress text =
      let here = json_text always scene (texts printed.call) progress printed.call printed.parts in
      let after = json_progress always scene (texts printed.call) progress printed.call printed.parts in
      let rest = flat_map json_line (messages_of always (shown_path scene.path) texts after.is_begun later) in
      text-all later after (text ++ here)
      ∙ (append_assoc text here rest
      ∙ ap (λ t. text ++ t) (sym (text-more progress printed.call printed.parts later)))

-- ---- its messages

-- the report of a call
call-words : (path : Option (Bor (List ℕ))) (text_at : CallTextAt) (call : Call) (parts : List (ℕ × ℕ)) → HasWords call
    → All IsWordRange parts → All IsReport (report_in path text_at call parts)
call-words path text_at begins parts has ranges = All-nil IsReport
call-words path text_at (matches number offset bytes around) parts has ranges =
    All-cons IsReport _ [] (record {
      bytes = has.bytes;
      number = has.number;
      offset = has.offset;
      ranges = ranges;
    }) (All-nil IsReport)
call-words path text_at (context kind number offset bytes) parts has ranges =
    All-cons IsReport _ [] (record {
      bytes = has.bytes;
      number = has.number;
      offset = has.offset;
      ranges = ranges;
    }) (All-nil IsReport)
call-words path text_at breaks parts has ranges = All-nil IsReport
call-words path text_at (binary_data offset) parts has ranges = All-nil IsReport
call-words path text_at (finishes count binary) parts has ranges = All-nil IsReport

calls-words : (path : Option (Bor (List ℕ))) (text_at : CallTextAt) (calls : List PrintedCall)
    → All HasPrintedWords calls
    → All IsReport (reports_of path text_at calls)
calls-words path text_at [] has = All-nil IsReport
calls-words path text_at (printed ∷ later) has =
    let here = All-head HasPrintedWords printed later has in
    All-append IsReport (report_in path text_at printed.call printed.parts)
    (reports_of path text_at later)
    (call-words path text_at printed.call printed.parts here.call here.ranges)
    (calls-words path text_at later (All-tail HasPrintedWords printed later has))

messages-read : (always : Bool) (path : Option (Bor (List ℕ))) (text_at : CallTextAt)
    (begun : Bool) (calls : List PrintedCall)
    → All HasPrintedWords calls → AreRead (messages_of always path text_at begun calls)
messages-read always path text_at begun calls has =
    All-append (λ m. IsLineOf m (json_line m)) _ _
    (opening (not begun && list_any (λ p. opens always p.call) calls))
    (All-map (λ m. IsLineOf m (json_line m)) message_of_report (reports_of path text_at calls)
    (All-weaker IsReport (λ r. IsLineOf (message_of_report r) (json_line (message_of_report r))) messages-read-back.report
    (reports_of path text_at calls) (calls-words path text_at calls has)))
  where
    opening : (due : Bool) → AreRead (if due then begin_json path ∷ [] else [])
    opening true = All-cons (λ m. IsLineOf m (json_line m)) (begin_json path) []
        (messages-read-back.begin path) (All-nil (λ m. IsLineOf m (json_line m)))
    opening false = All-nil (λ m. IsLineOf m (json_line m))

-- ---- what the messages tell

reports-same : (first later : List Reported) → All IsReport first → All IsReport later
    → map message_of_report first ≡ map message_of_report later → AllZip IsSameReport first later
reports-same [] [] one two same = tt
reports-same [] (b ∷ later) one two same = absurd cc
reports-same (a ∷ first) [] one two same = absurd cc
reports-same (a ∷ first) (b ∷ later) one two same =
    let head : message_of_report a ≡ message_of_report b = cc in let tail : map message_of_report first ≡ map message_of_report later = cc in (
      messages-tell a b (All-head IsReport a first one) (All-head IsReport b later two)
          head,
      reports-same first later (All-tail IsReport a first one) (All-tail IsReport b later two) tail,
    )

-- `begin` is no report's
begin-alone : (path : Option (Bor (List ℕ))) (first later : List Reported)
    → begin_json path ∷ map message_of_report first ≡ map message_of_report later → ⊥
begin-alone path first [] same = absurd cc
begin-alone path first (b ∷ later) same = let head : begin_json path ≡ message_of_report b = cc in begin-other path b head

messages-same : (due also : Bool) (path other : Option (Bor (List ℕ))) (first later : List Reported)
    → All IsReport first → All IsReport later
    → (if due then begin_json path ∷ [] else []) ++ map message_of_report first
    ≡ (if also then begin_json other ∷ [] else []) ++ map message_of_report later → AllZip IsSameReport first later
messages-same true true path other first later one two same =
    let tail : map message_of_report first ≡ map message_of_report later = cc in reports-same first later one two tail
messages-same true false path other first later one two same = absurd (begin-alone path first later same)
messages-same false true path other first later one two same = absurd (begin-alone other later first (sym same))
messages-same false false path other first later one two same = reports-same first later one two same

pub searches-read : {R : Type 0} (text_at : R → TextAt) → SearchesAreReadBack text_at
searches-read text_at format scene calls has =
    let texts = texts_of text_at format scene in
    lines-read (messages_of format.always_begin_end (shown_path scene.path) texts format.progress.is_begun calls)
    (printed_by (json_rules text_at) scene format calls).text
    (text-all text_at format.always_begin_end format.replacer scene calls format.progress [])
    (messages-read format.always_begin_end (shown_path scene.path) texts format.progress.is_begun calls has)

pub searches-tell : {R : Type 0} (text_at : R → TextAt) → SearchesTell text_at
searches-tell text_at format other scene another calls others has also same =
    let first = texts_of text_at format scene in
    let second = texts_of text_at other another in
    let one = searches-read text_at format scene calls has in
    let two = searches-read text_at other another others also in
    messages-same
    (not format.progress.is_begun && list_any (λ p. opens format.always_begin_end p.call) calls)
    (not other.progress.is_begun && list_any (λ p. opens other.always_begin_end p.call) others)
    (shown_path scene.path) (shown_path another.path) (reports_of (shown_path scene.path) first calls) (reports_of (shown_path another.path) second others)
    (calls-words (shown_path scene.path) first calls has) (calls-words (shown_path another.path) second others also)
    (lines-tell (messages_of format.always_begin_end (shown_path scene.path) first format.progress.is_begun calls)
    (messages_of other.always_begin_end (shown_path another.path) second other.progress.is_begun others)
    (lines 10 (printed_by (json_rules text_at) scene format calls).text) one.read
    (subst (λ text. AllZip IsLineOf
    (messages_of other.always_begin_end (shown_path another.path) second other.progress.is_begun others)
    (lines 10 text)) (sym same) two.read))

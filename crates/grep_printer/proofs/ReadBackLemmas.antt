-- Messages of a printer of JSON, as they are read back.
use Rattle.std.proofs.Common.{ℕ, ◌<◌, ◌≤◌, ◌^◌, ◌/◌, ◌%◌, List, [], ◌∷◌, Bool, true, false, Option, None, Some, arith}
use Rattle.std.proofs.Common.{refl}
use Rattle.std.specs.Borrow.{Bor}
use Rattle.std.specs.Option.{IfSome}
use Rattle.std.specs.Prelude.{All, if◌then◌else◌}
use Rattle.std.specs.Str.{is_utf8}
use Rattle.std.proofs.lemmas.List.Elements.{All-head, All-tail}
use Rattle.base64.specs.Engines.{standard}
use Rattle.base64.specs.GeneralPurpose.{encode_of}
use Rattle.json.proofs.Printed.Decimals.{IsNumber-decimal}
use Rattle.json.proofs.Printed.Trees.{document-print}
use Rattle.json.specs.Json.{Json}
use Rattle.json.specs.Print.{print}
use Rattle.json.specs.Tree.{HasNumbers, ItemsHaveNumbers, depth, items_depth, json_tokens}
use Rattle.grep_printer.proofs.LineFeedLemmas.{printed-lacks}
use Rattle.grep_printer.specs.JsonLaws.{AreWords, IsLineOf, IsReport, IsWordRange, MessagesAreReadBack, Reported}
use Rattle.grep_printer.specs.JsonLaws.{message_of_report}
use Rattle.grep_printer.specs.JsonMessages.{base64_json, begin_json, bytes_json, end_json, json_line, optional_json}
use Rattle.grep_printer.specs.JsonMessages.{path_json, report_json, stats_json, submatch_items, submatch_json}
use Rattle.grep_printer.specs.JsonMessages.{summary_json, text_json, time_json}
use Rattle.grep_printer.specs.declared.stats.Stats.{Stats}

-- the numbers of a value are numbers, and it is no deeper than so
record IsWritable (n : ℕ) (j : Json) : Type 0 where
  numbers : HasNumbers j
  shallow : depth j ≤ n

path-writable : (path : Option (Bor (List ℕ))) → IsWritable 1 (path_json path)
path-writable None = record { numbers = tt; shallow = omega arith }
path-writable (Some path) = record { numbers = (tt, tt); shallow = omega arith }

optional-writable : (number : Option ℕ) → IfSome number (λ n. n < 2 ^ 64) → IsWritable 0 (optional_json number)
optional-writable None small = record { numbers = tt; shallow = omega arith }
optional-writable (Some n) small = record { numbers = IsNumber-decimal n small; shallow = omega arith }

bytes-writable : (bytes : List ℕ) → IsWritable 1 (bytes_json bytes)
unfolding bytes_json
bytes-writable bytes = go (is_utf8 bytes)
  where
    go : (b : Bool) → IsWritable 1 (if b then text_json bytes else base64_json (encode_of standard bytes))
    go true = record { numbers = (tt, tt); shallow = omega arith }
    go false = record { numbers = (tt, tt); shallow = omega arith }

time-writable : (nanos : ℕ) → nanos < 2 ^ 64 → IsWritable 1 (time_json nanos)
unfolding time_json
time-writable nanos small = record {
  numbers = (
    IsNumber-decimal (nanos / 1000000000) (omega arith),
    (IsNumber-decimal (nanos % 1000000000) (omega arith), (tt, tt)),
  );
  shallow = omega arith;
}

stats-writable : (stats : Stats) → AreWords stats → IsWritable 2 (stats_json stats)
unfolding stats_json
stats-writable stats words =
    let elapsed = time-writable stats.elapsed words.elapsed in
    let shallow = elapsed.shallow in record {
      numbers = (
        elapsed.numbers,
        (
          IsNumber-decimal stats.searches words.searches,
          (
            IsNumber-decimal stats.searches_with_match words.searches_with_match,
            (
              IsNumber-decimal stats.bytes_searched words.bytes_searched,
              (
                IsNumber-decimal stats.bytes_printed words.bytes_printed,
                (
                  IsNumber-decimal stats.matched_lines words.matched_lines,
                  (IsNumber-decimal stats.matches words.matches, tt),
                ),
              ),
            ),
          ),
        ),
      );
      shallow = omega arith;
    }

range-writable : (bytes : List ℕ) (text : Option (List ℕ)) (range : ℕ × ℕ) → IsWordRange range
    → IsWritable 2 (submatch_json bytes text range)
unfolding submatch_json
range-writable bytes None range small =
    let found = bytes-writable _ in
    let shallow = found.shallow in record {
      numbers = (found.numbers, (IsNumber-decimal range.0 small.0, (IsNumber-decimal range.1 small.1, tt)));
      shallow = omega arith;
    }
range-writable bytes (Some text) range small =
    let found = bytes-writable _ in
    let shallow = found.shallow in
    let placed = bytes-writable text in
    let flat = placed.shallow in record {
      numbers = (
        found.numbers,
        (placed.numbers, (IsNumber-decimal range.0 small.0, (IsNumber-decimal range.1 small.1, tt))),
      );
      shallow = omega arith;
    }

ranges-numbers : (bytes : List ℕ) (text_at : ℕ → Option (List ℕ)) (ranges : List (ℕ × ℕ))
    → All IsWordRange ranges
    → ItemsHaveNumbers (submatch_items bytes text_at ranges)
ranges-numbers bytes text_at [] small = tt
ranges-numbers bytes text_at (range ∷ later) small = (
  (range-writable bytes (text_at range.0) range (All-head IsWordRange range later small)).numbers,
  ranges-numbers bytes text_at later (All-tail IsWordRange range later small),
)

ranges-shallow : (bytes : List ℕ) (text_at : ℕ → Option (List ℕ)) (ranges : List (ℕ × ℕ))
    → All IsWordRange ranges
    → items_depth (submatch_items bytes text_at ranges) ≤ 2
ranges-shallow bytes text_at [] small = omega arith
ranges-shallow bytes text_at (range ∷ later) small =
    let first = (range-writable bytes (text_at range.0) range (All-head IsWordRange range later small)).shallow in
    omega (arith, first, ranges-shallow bytes text_at later (All-tail IsWordRange range later small))

begin-writable : (path : Option (Bor (List ℕ))) → IsWritable 128 (begin_json path)
unfolding begin_json
begin-writable path =
    let one = path-writable path in
    let shallow = one.shallow in
    record { numbers = (tt, ((one.numbers, tt), tt)); shallow = omega arith }

report-writable : (report : Reported) → IsReport report → IsWritable 128 (message_of_report report)
unfolding report_json
report-writable report is =
    let path = path-writable report.path in
    let bytes = bytes-writable report.bytes in
    let number = optional-writable report.number is.number in
    let ranges = ranges-shallow report.bytes report.text_at report.ranges is.ranges in
    let first = path.shallow in
    let second = bytes.shallow in
    let third = number.shallow in record {
      numbers = (
        tt,
        (
          (
            path.numbers,
            (
              bytes.numbers,
              (
                number.numbers,
                (
                  IsNumber-decimal report.offset is.offset,
                  (ranges-numbers report.bytes report.text_at report.ranges is.ranges, tt),
                ),
              ),
            ),
          ),
          tt,
        ),
      );
      shallow = omega arith;
    }

end-writable : (path : Option (Bor (List ℕ))) (binary : Option ℕ) (stats : Stats)
    → IfSome binary (λ n. n < 2 ^ 64) → AreWords stats → IsWritable 128 (end_json path binary stats)
unfolding end_json
end-writable path binary stats small words =
    let one = path-writable path in
    let two = optional-writable binary small in
    let three = stats-writable stats words in
    let first = one.shallow in
    let second = two.shallow in
    let third = three.shallow in record {
      numbers = (tt, ((one.numbers, (two.numbers, (three.numbers, tt))), tt));
      shallow = omega arith;
    }

summary-writable : (stats : Stats) (total : ℕ) → AreWords stats → total < 2 ^ 64
    → IsWritable 128 (summary_json stats total)
unfolding summary_json
summary-writable stats total words small =
    let one = time-writable total small in
    let two = stats-writable stats words in
    let first = one.shallow in
    let second = two.shallow in
    record { numbers = (tt, ((one.numbers, (two.numbers, tt)), tt)); shallow = omega arith }

-- the line of a message
line-read : (j : Json) → IsWritable 128 j → IsLineOf j (json_line j)
unfolding json_line
line-read j writable = record {
  text = print (json_tokens j);
  ended = refl;
  unbroken = printed-lacks j writable.numbers;
  read = document-print j writable.numbers writable.shallow;
}

-- each message
pub messages-read-back : MessagesAreReadBack
messages-read-back = record {
  begin = λ path. line-read (begin_json path) (begin-writable path);
  report = λ report is. line-read (message_of_report report) (report-writable report is);
  end = λ path binary stats small words. line-read (end_json path binary stats)
      (end-writable path binary stats small words);
  summary = λ stats total words small. line-read (summary_json stats total)
      (summary-writable stats total words small);
}

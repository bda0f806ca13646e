-- The printed text of a value of JSON holds no line feed.
use Rattle.std.proofs.Common.{◌≡◌, ◌≢◌, ◌∙◌, ℕ, suc, ◌+◌, List, [], ◌∷◌, ◌++◌, Bool, true, false, cond, ◌==◌, ◌||◌}
use Rattle.std.proofs.Common.{Option, None, Some, option_and_then, ap, arith, drop, refl, subst, sym}
use Rattle.std.proofs.lemmas.Bool.{and_parts, ltb-false}
use Rattle.std.proofs.lemmas.List.Elements.{All-nil, All-cons, All-append}
use Rattle.std.specs.Char.{digit_char, is_ascii_digit}
use Rattle.std.specs.List.{list_all, prefix_len}
use Rattle.std.specs.Prelude.{All, ◌&&◌, ◌/◌, ◌%◌, nat_lt, not}
use Rattle.json.proofs.Printed.Trees.{ArePrintable-json_tokens}
use Rattle.json.specs.Json.{Json}
use Rattle.json.specs.Print.{ArePrintable, IsNumber, IsPrintable, begins, ends, escape, escape_byte, escape_letter}
use Rattle.json.specs.Print.{print, print_from, quoted, separator, token_text}
use Rattle.json.specs.Token.{Token, begin_object, end_object, begin_array, end_array, key, string, number}
use Rattle.json.specs.Token.{boolean, null, bad}
use Rattle.json.specs.Tree.{HasNumbers, json_tokens}
use Rattle.json.specs.Word.{after_digits, after_exponent, after_fraction, after_minus, after_number, after_sign}
use Rattle.json.specs.Word.{after_whole, head}

-- no byte is a line feed
abbrev Lacks : List ℕ → Type 0
Lacks text = All (λ b. b ≢ 10) text

-- a byte that passes a test which a line feed doesn't
tested-other : (test : ℕ → Bool) → test 10 ≡ false → (b : ℕ) → test b ≡ true → b ≢ 10
tested-other test none b passes same = let both = sym none ∙ (ap test (sym same) ∙ passes) in absurd cc

lacks-more : (b : ℕ) (text : List ℕ) → b ≢ 10 → Lacks text → Lacks (b ∷ text)
lacks-more b text other lacks = All-cons (λ c. c ≢ 10) b text other lacks

lacks-one : (b : ℕ) → b ≢ 10 → Lacks (b ∷ [])
lacks-one b other = lacks-more b [] other (All-nil (λ c. c ≢ 10))

-- a text that is written out holds none
fixed-lacks : (text : List ℕ) → list_all (λ b. not (b == 10)) text ≡ true → Lacks text
fixed-lacks [] none = All-nil (λ b. b ≢ 10)
fixed-lacks (b ∷ text) none =
    let parts = and_parts (not (b == 10)) (list_all (λ c. not (c == 10)) text) none in
    lacks-more b text (tested-other (λ c. not (c == 10)) refl b parts.0) (fixed-lacks text parts.1)

lacks-both : (first later : List ℕ) → Lacks first → Lacks later → Lacks (first ++ later)
lacks-both first later = All-append (λ b. b ≢ 10) first later

-- ---- numbers: what a part of one takes holds none

first-lacks : (test : ℕ → Bool) → test 10 ≡ false → (text : List ℕ) → test (head text) ≡ true → Lacks (drop 1 text)
    → Lacks text
first-lacks test none [] passes rest = All-nil (λ b. b ≢ 10)
first-lacks test none (b ∷ text) passes rest = lacks-more b text (tested-other test none b passes) rest

-- a byte that is taken if it passes
optional-lacks : (test : ℕ → Bool) → test 10 ≡ false → (text : List ℕ)
    → Lacks (cond (test (head text)) (drop 1 text) text) → Lacks text
optional-lacks test none text rest = go (test (head text)) refl rest
  where
    go : (b : Bool) → test (head text) ≡ b → Lacks (cond b (drop 1 text) text) → Lacks text
    go true passes left = first-lacks test none text passes left
    go false passes left = left

run-lacks : (text : List ℕ) → Lacks (drop (prefix_len is_ascii_digit text) text) → Lacks text
run-lacks [] rest = rest
run-lacks (b ∷ text) rest = go (is_ascii_digit b) refl (run-lacks text) rest
  where
    go : (digit : Bool) → is_ascii_digit b ≡ digit
        → (Lacks (drop (prefix_len is_ascii_digit text) text) → Lacks text)
        → Lacks (drop (cond digit (1 + prefix_len is_ascii_digit text) 0) (b ∷ text)) → Lacks (b ∷ text)
    go true passes later left =
        let next : 1 + prefix_len is_ascii_digit text ≡ suc (prefix_len is_ascii_digit text) = omega arith in
        lacks-more b text (tested-other is_ascii_digit refl b passes)
        (later (subst (λ n. Lacks (drop n (b ∷ text))) next left))
    go false passes later left = left

-- a part that leaves a text without one
abbrev Takes : (List ℕ → Option (List ℕ)) → Type 0
Takes part = (text rest : List ℕ) → part text ≡ Some rest → Lacks rest → Lacks text

digits-take : Takes after_digits
digits-take text rest is lacks = go (prefix_len is_ascii_digit text == 0) is
  where
    go : (none : Bool) → cond none None (Some (drop (prefix_len is_ascii_digit text) text)) ≡ Some rest → Lacks text
    go true left = absurd cc
    go false left =
        let same : drop (prefix_len is_ascii_digit text) text ≡ rest = cc in
        run-lacks text (subst Lacks (sym same) lacks)

whole-takes : Takes after_whole
whole-takes text rest is lacks = go (head text == 48) refl is
  where
    go : (zero : Bool) → (head text == 48) ≡ zero → cond zero (Some (drop 1 text)) (after_digits text) ≡ Some rest
        → Lacks text
    go true passes left =
        let same : drop 1 text ≡ rest = cc in
        first-lacks (λ b. b == 48) refl text passes (subst Lacks (sym same) lacks)
    go false passes left = digits-take text rest left lacks

fraction-takes : Takes after_fraction
fraction-takes text rest is lacks = go (head text == 46) refl is
  where
    go : (dot : Bool) → (head text == 46) ≡ dot → cond dot (after_digits (drop 1 text)) (Some text) ≡ Some rest
        → Lacks text
    go true passes left = first-lacks (λ b. b == 46) refl text passes (digits-take (drop 1 text) rest left lacks)
    go false passes left = let same : text ≡ rest = cc in subst Lacks (sym same) lacks

exponent-takes : Takes after_exponent
exponent-takes text rest is lacks = go ((head text == 101) || (head text == 69)) refl is
  where
    go : (letter : Bool) → ((head text == 101) || (head text == 69)) ≡ letter
        → cond letter (after_digits (after_sign (drop 1 text))) (Some text) ≡ Some rest → Lacks text
    go true passes left =
        first-lacks (λ b. (b == 101) || (b == 69)) refl text passes
        (optional-lacks (λ b. (b == 45) || (b == 43)) refl (drop 1 text)
        (digits-take (after_sign (drop 1 text)) rest left lacks))
    go false passes left = let same : text ≡ rest = cc in subst Lacks (sym same) lacks

-- a part after what the parts before it left
then-takes : (part : List ℕ → Option (List ℕ)) → Takes part → (text : List ℕ) (left : Option (List ℕ))
    → ((rest : List ℕ) → left ≡ Some rest → Lacks rest → Lacks text)
    → (rest : List ℕ) → option_and_then part left ≡ Some rest → Lacks rest → Lacks text
then-takes part takes text None before rest is lacks = absurd cc
then-takes part takes text (Some mid) before rest is lacks = before mid refl (takes mid rest is lacks)

number-lacks : (text : List ℕ) → IsNumber text → Lacks text
unfolding after_number
number-lacks text is =
    then-takes after_exponent exponent-takes text (option_and_then after_fraction (after_whole (after_minus text)))
    (then-takes after_fraction fraction-takes text (after_whole (after_minus text))
    (λ rest left lacks. optional-lacks (λ b. b == 45) refl text (whole-takes (after_minus text) rest left lacks)))
    [] is (All-nil (λ b. b ≢ 10))

-- ---- strings: no escape holds one

digit-other : (d : ℕ) → digit_char d ≢ 10
digit-other d = go (nat_lt d 10)
  where
    go : (low : Bool) → cond low (48 + d) (87 + d) ≢ 10
    go true same = omega (arith, same)
    go false same = omega (arith, same)

letter-other : (x : ℕ) → escape_letter x ≢ 10
letter-other x = go ((x == 34) || (x == 92)) (x == 8) (x == 12) (x == 10) (x == 13) (x == 9) refl
  where
    go : (itself a b c d e : Bool) → ((x == 34) || (x == 92)) ≡ itself
        → cond itself x (cond a 98 (cond b 102 (cond c 110 (cond d 114 (cond e 116 0))))) ≢ 10
    go true a b c d e is same = tested-other (λ y. (y == 34) || (y == 92)) refl x is same
    go false true b c d e is same = omega (arith, same)
    go false false true c d e is same = omega (arith, same)
    go false false false true d e is same = omega (arith, same)
    go false false false false true e is same = omega (arith, same)
    go false false false false false true is same = omega (arith, same)
    go false false false false false false is same = omega (arith, same)

byte-lacks : (x : ℕ) → Lacks (escape_byte x)
unfolding escape_byte
byte-lacks x = go (nat_lt 0 (escape_letter x)) (nat_lt x 32) refl
  where
    go : (short low : Bool) → nat_lt x 32 ≡ low → Lacks (cond short (92 ∷ escape_letter x ∷ [])
        (cond low (92 ∷ 117 ∷ 48 ∷ 48 ∷ digit_char (x / 16) ∷ digit_char (x % 16) ∷ []) (x ∷ [])))
    go true low is = lacks-more 92 (escape_letter x ∷ []) (λ e. omega arith)
        (lacks-one (escape_letter x) (letter-other x))
    go false true is =
        lacks-both (92 ∷ 117 ∷ 48 ∷ 48 ∷ []) (digit_char (x / 16) ∷ digit_char (x % 16) ∷ [])
        (fixed-lacks (92 ∷ 117 ∷ 48 ∷ 48 ∷ []) refl)
        (lacks-more (digit_char (x / 16)) (digit_char (x % 16) ∷ []) (digit-other (x / 16))
        (lacks-one (digit_char (x % 16)) (digit-other (x % 16))))
    go false false is = lacks-one x (λ e. omega (arith, ltb-false x 32 is))

escape-lacks : (text : List ℕ) → Lacks (escape text)
escape-lacks [] = All-nil (λ b. b ≢ 10)
escape-lacks (x ∷ text) = lacks-both (escape_byte x) (escape text) (byte-lacks x) (escape-lacks text)

quoted-lacks : (text : List ℕ) → Lacks (quoted text)
quoted-lacks text =
    lacks-more 34 (escape text ++ 34 ∷ []) (λ e. omega arith)
    (lacks-both (escape text) (34 ∷ []) (escape-lacks text) (fixed-lacks (34 ∷ []) refl))

-- ---- tokens

token-lacks : (token : Token) → IsPrintable token → Lacks (token_text token)
token-lacks begin_object is = fixed-lacks (123 ∷ []) refl
token-lacks end_object is = fixed-lacks (125 ∷ []) refl
token-lacks begin_array is = fixed-lacks (91 ∷ []) refl
token-lacks end_array is = fixed-lacks (93 ∷ []) refl
token-lacks (key name) is = lacks-both (quoted name) (58 ∷ []) (quoted-lacks name) (fixed-lacks (58 ∷ []) refl)
token-lacks (string text) is = quoted-lacks text
token-lacks (number text) is = number-lacks text is
token-lacks (boolean true) is = fixed-lacks (token_text (boolean true)) refl
token-lacks (boolean false) is = fixed-lacks (token_text (boolean false)) refl
token-lacks null is = fixed-lacks (token_text null) refl
token-lacks bad is = absurd is

comma-lacks : (b : Bool) → Lacks (cond b (44 ∷ []) [])
comma-lacks true = fixed-lacks (44 ∷ []) refl
comma-lacks false = fixed-lacks [] refl

tokens-lack : (after : Bool) (tokens : List Token) → ArePrintable tokens → Lacks (print_from after tokens)
unfolding print_from ArePrintable
tokens-lack after [] are = All-nil (λ b. b ≢ 10)
tokens-lack after (token ∷ later) are =
    lacks-both (separator after token) (token_text token ++ print_from (ends token) later)
    (comma-lacks (after && begins token))
    (lacks-both (token_text token) (print_from (ends token) later) (token-lacks token are.0)
    (tokens-lack (ends token) later are.1))

-- a printed value
pub printed-lacks : (j : Json) → HasNumbers j → All (λ b. b ≢ 10) (print (json_tokens j))
printed-lacks j numbers = tokens-lack false (json_tokens j) (ArePrintable-json_tokens j numbers)

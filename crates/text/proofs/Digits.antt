-- The digits that a text begins with, read one by one. Assumes nothing.
use Rattle.std.proofs.Common.{◌≡◌, ℕ, zero, suc, ◌+◌, ◌-◌, ◌*◌, ◌^◌, ◌<◌, ◌≤◌, true, false, refl, List, [], ◌∷◌, ◌++◌, length, get_or, take, take_all, sym, ap, ◌∙◌, arith}
use lib.ListN.{drop, length-drop, get_or-eq_default}
use lib.Seq.{get_or-drop}
use Rattle.std.specs.Char.{is_ascii_digit, digit_value}
use Rattle.std.specs.Str.Parse.{AllDigits, digits_value}
use Rattle.std.proofs.lemmas.Bool.Decides.{nat_tests}
use Rattle.std.proofs.lemmas.Int.Digits.{digits_value_more}
use Rattle.std.proofs.lemmas.List.{take-append-drop, length-take-le}
use Rattle.text.specs.Inner.Text.{Digit, Follows}

-- the first i bytes are digits, and this is their value
pub record Leads (text : List ℕ) (i value : ℕ) : Type 0 where
  pub all : AllDigits 10 (take i text)
  pub is : value ≡ digits_value 10 (take i text)
  pub few : value < 2 ^ 32

pub leads_none : (text : List ℕ) → Leads text 0 0
leads_none text = record { all = tt; is = refl; few = omega arith }

-- one digit more
all_more : (ds : List ℕ) (i : ℕ) → i < length ds → AllDigits 10 (take i ds) → digit_value (get_or ds i 0) < 10 → AllDigits 10 (take (i + 1) ds)
all_more [] i h a d = absurd (omega (arith, h))
all_more (x ∷ xs) zero h a d = (d, tt)
all_more (x ∷ xs) (suc i) h a d =
    let e : suc i + 1 ≡ suc (i + 1) = omega arith in
    rw e (a.0, all_more xs i (omega (arith, h)) a.1 d)

pub leads_more : {text : List ℕ} {i value next : ℕ} → i < length text → is_ascii_digit (get_or text i 0) ≡ true → next ≡ value * 10 + (get_or text i 0 - 48) → next < 2 ^ 32 → Leads text i value
    → Leads text (i + 1) next
leads_more {text} {i} h d e few f =
    let worth : digit_value (get_or text i 0) ≡ get_or text i 0 - 48 = grind (arith, nat_tests) in
    let small : digit_value (get_or text i 0) < 10 = grind (arith, nat_tests) in
    record { all = all_more text i h f.all small; is = e ∙ rw (digits_value_more 10 text i h, worth, f.is) refl; few = few }

-- no byte behind the last is a digit
pub no_digit : (text : List ℕ) {i : ℕ} → length text ≤ i → ¬ Digit (get_or text i 0)
no_digit text {i} h d = absurd (omega (arith, d.0, get_or-eq_default text 0 h))

pub not_digit : {byte : ℕ} → is_ascii_digit byte ≡ false → ¬ Digit byte
not_digit e d = grind (arith, nat_tests)

zero_right : (i : ℕ) → i + 0 ≡ i
zero_right i = omega arith

-- behind them stands none
pub follows : {text : List ℕ} {i value : ℕ} → Leads text i value → 0 < i → i ≤ length text → ¬ Digit (get_or text i 0) → Follows (32 ∷ text) (take (length text - i) (drop i text)) value
follows {text} {i} f some h last =
    let whole : take (length text - i) (drop i text) ≡ drop i text = take_all (length text - i) (drop i text) (omega (arith, length-drop i text)) in
    record {
      digits = take i text;
      parts = ap (λ (l : List ℕ). 32 ∷ l) (sym (take-append-drop i text) ∙ ap (λ (l : List ℕ). take i text ++ l) (sym whole));
      whole = λ d. last (rw (whole, get_or-drop i text 0 0, zero_right i) at d);
      numeral = (omega (arith, length-take-le i text h), f.all);
      is = f.is;
    }

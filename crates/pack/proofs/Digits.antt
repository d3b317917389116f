-- What `parse` gives of a text is the number that its digits make. Assumes nothing.
use Rattle.std.proofs.Common.{◌≡◌, ℕ, ◌<◌, ◌≤◌, ◌^◌, Bool, true, false, cond, ◌&&◌, List, leb, eqb, length, get_or, Some, None, Err, Ok, refl, sym, arith, rules}
use Rattle.std.specs.Bool.{then_some}
use Rattle.std.specs.Str.{IsUtf8}
use Rattle.std.specs.Str.Parse.{ParsesUnsigned}
use Rattle.std.proofs.lemmas.Bool.{eqb-true, eqb-false}
use Rattle.std.proofs.lemmas.Str.{IsUtf8-from_ascii}
use Rattle.std.proofs.lemmas.Str.Parse.{IsNumeralModel, numerals_by_fold, parse_plain, digit_at}
use Rattle.std.proofs.lemmas.Fmt.{IsAscii-from_digits}
use borrow.Author.Tests.{leb-true, ltb-true, lt-ltb}
use Rattle.pack.specs.Decimal.{all_digits, value_from, decimal_in}

own : IsNumeralModel (λ ds. all_digits ds ≡ true) (value_from 0)
unfolding all_digits value_from
own = numerals_by_fold _ (search rules) value_from (search rules)

no_value : (a b c : Bool) (n : ℕ) → (a ≡ true → b ≡ true → c ≡ true → ⊥) → None ≡ cond (a && (b && c)) (Some n) None
no_value false b c n h = refl
no_value true false c n h = refl
no_value true true false n h = refl
no_value true true true n h = absurd (h refl refl refl)

chosen : (b : Bool) (n : ℕ) → then_some b n ≡ cond b (Some n) None
chosen true n = refl
chosen false n = refl

module _ (most : ℕ) (text : List ℕ) where
  refused : (0 < length text → all_digits text ≡ true → value_from 0 text ≤ most → ⊥) → None ≡ decimal_in most text
  unfolding decimal_in
  refused h = no_value _ _ _ _ (λ l d m. h (ltb-true 0 (length text) l) d (leb-true (value_from 0 text) most m))

  pub no_text : (IsUtf8 text → ⊥) → None ≡ decimal_in most text
  no_text h = refused (λ l d m. h (IsUtf8-from_ascii text (IsAscii-from_digits text (own.to text d))))

  pub plus : true ≡ eqb (get_or text 0 0) 43 → None ≡ decimal_in most text
  plus e = refused (λ l d m. let r = digit_at text 0 (own.to text d) l in let p = eqb-true _ _ (sym e) in omega arith)

  module _ (no_plus : false ≡ eqb (get_or text 0 0) 43) where
    pub no_number : most < 2 ^ 64 → ParsesUnsigned {E = Unit {0}} 64 10 text (Err tt) → None ≡ decimal_in most text
    no_number w h = refused (λ l d m. parse_plain own {E = Unit {0}} 64 text (Err tt) h (eqb-false _ _ (sym no_plus)) (d, l, omega arith))

    pub number : (n : ℕ) → ParsesUnsigned {E = Unit {0}} 64 10 text (Ok n) → then_some (leb n most) n ≡ decimal_in most text
    unfolding decimal_in
    number n h =
        let p = parse_plain own {E = Unit {0}} 64 text (Ok n) h (eqb-false _ _ (sym no_plus)) in
        rw (lt-ltb 0 (length text) p.0.1, p.0.0, ← p.1) (chosen (leb n most) n)

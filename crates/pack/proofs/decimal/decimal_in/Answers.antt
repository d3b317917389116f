use Rattle.std.proofs.Common.{◌∙◌, arith}
use Rattle.pack.proofs.Digits.{no_text, plus, no_number, number}
use Rattle.pack.proofs.decimal.decimal_in.Goals as goal

pub returns-in_default-clause-value : goal.returns-in_default-clause-value
returns-in_default-clause-value c = no_text _ _ c.in_default.ensures.cases.0

pub returns-then-starts_with-clause-value : goal.returns-then-starts_with-clause-value
returns-then-starts_with-clause-value c =
    let sign = c.if-starts_with.ensures.byte (omega arith) (omega arith) (λ w o h. h) in
    plus _ _ (rw c.in-Ok.ensures.cases.0 at sign)

pub returns-in-Ok-parse-clause-value : goal.returns-in-Ok-parse-clause-value
returns-in-Ok-parse-clause-value c =
    let sign = c.if-starts_with.ensures.byte (omega arith) (omega arith) (λ w o h. h) in
    c.then_some.ensures ∙ number _ _ (rw c.in-Ok.ensures.cases.0 at sign) _ (rw c.in-Ok.ensures.cases.0 at c.in-Ok-parse.ensures.value.0)

pub returns-in-Err-clause-value : goal.returns-in-Err-clause-value
returns-in-Err-clause-value c =
    let sign = c.if-starts_with.ensures.byte (omega arith) (omega arith) (λ w o h. h) in
    no_number _ _ (rw c.in-Ok.ensures.cases.0 at sign) (omega arith) (rw c.in-Ok.ensures.cases.0 at c.in-Err.ensures.value.0)

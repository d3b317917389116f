-- The whole header, from the pieces that the code stores.
-- Assumes nothing.
use Rattle.std.proofs.Common.{◌≡◌, ℕ, ◌+◌, ◌-◌, ◌≤◌, List, ◌++◌, length, take, replicate, Result, Ok, Err, ◌∙◌, append_assoc, arith, length-append}
use borrow.Author.Tests.{ne_eqb}
use Rattle.refusal.specs.Numbers.{numbered}
use Rattle.refusal.specs.declared.Refusal.{Refusal}
use Rattle.sha256.specs.Digest.{longest, answer}
use Rattle.sha256.proofs.Answers as D
use Rattle.sha256.proofs.Answers.{short_enough}
use Rattle.writer.specs.Layout.{tag_bytes, fixed_part, covered_part, digest_to_sign, written}
use Rattle.writer.specs.Stored.{Stored}
use Rattle.writer.specs.Writer.{fields_check, write_check, buffer_after}
use Rattle.writer.specs.declared.Fields.{Fields}
use Rattle.writer.proofs.Accepted.{accepted}
use Rattle.writer.proofs.Stores.{length-le, tag_length}

is_ok : {A : Type 0} (r : Result A Refusal) (x : A) → numbered r ≡ Ok x → r ≡ Ok x
is_ok (Ok y) x e = cc
is_ok (Err d) x e = cc

module _ (fields : Fields) (firmware custom hint : List ℕ) where
  pub fixed_length : length (fixed_part fields firmware) ≡ 34
  fixed_length = simp (length-append, tag_length, length-le)

  pub covered_length : length hint ≡ 32 → length (covered_part fields firmware custom hint) ≡ 70 + length custom
  unfolding covered_part
  covered_length h = simp (length-append, tag_length, length-le) (omega arith)

  -- the digest that the code makes
  pub digest-is :
      (r : Result (List ℕ) Refusal) →
      length hint ≡ 32 →
      fields_check firmware custom ≡ 0 →
      numbered r ≡ answer (covered_part fields firmware custom hint ++ firmware) →
      r ≡ Ok (digest_to_sign fields firmware custom hint)
  unfolding digest_to_sign
  digest-is r h e q =
      let a = accepted firmware custom e in
      let l : length (covered_part fields firmware custom hint ++ firmware) ≤ longest =
      rw (length-append (covered_part fields firmware custom hint) firmware) (omega (arith, covered_length h, a.firmware_ok, a.custom_ok)) in
      is_ok r _ (q ∙ short_enough longest (covered_part fields firmware custom hint ++ firmware) l)

  pub digest-length : length (digest_to_sign fields firmware custom hint) ≡ 32
  unfolding digest_to_sign
  digest-length = D.digest-length _

  module _ (signature : List ℕ) where
    pub kept :
        (b : List ℕ) → (write_check b firmware custom ≡ 0 → ⊥) → b ≡ buffer_after b fields firmware custom hint signature
    unfolding buffer_after
    kept b h = simp (ne_eqb _ _ h)

    -- the pieces are the header
    pub filled :
        {b b₁ b₂ : List ℕ} {at : ℕ} →
        write_check b firmware custom ≡ 0 →
        length b ≡ 256 →
        length custom ≤ 82 →
        length hint ≡ 32 →
        length signature ≡ 64 →
        Stored 0 b ((covered_part fields firmware custom hint ++ tag_bytes 0x0003 (digest_to_sign fields firmware custom hint)) ++ tag_bytes 0x0020 signature) at b₁ →
        b₂ ≡ take at b₁ ++ replicate (length b₁ - at) 0xFF →
        b₂ ≡ buffer_after b fields firmware custom hint signature
    unfolding buffer_after written
    filled {b} {b₁} {b₂} {at} w l s h n p e =
        let place : at ≡ 174 + length custom = p.next ∙ simp (length-append, tag_length, covered_length h, digest-length, n) (omega arith) in
        let left : length b₁ - at ≡ 82 - length custom = omega (arith, p.long, place) in
        simp w (e ∙ rw (p.start, left) (simp append_assoc))

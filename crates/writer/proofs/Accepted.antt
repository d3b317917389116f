-- What is known of a firmware and a run of custom tags that the writer accepts, and what its calls refuse.
-- Assumes nothing.
use Prim.Native.Nat.{ℕ, ◌≤◌}
use mathlib.Core.Bool.{true}
use mathlib.Core.List.{List, [], ◌∷◌}
use mathlib.Core.Path.{◌≡◌}
use native.Mathlib.Omega.{arith}
use lib.Dec.{ltb, eqb}
use lib.ListN.{length}
use borrow.Author.Tests.{ltb-false, eqb-false, eqb-true}
use Rattle.header.proofs.Refusals.{zero_at}
use Rattle.compare.proofs.Tests.{by_test}
use Rattle.writer.specs.Custom.{tags_of, well_formed, custom_check}
use Rattle.writer.specs.Writer.{buffer_check, firmware_check, fields_check, write_check}

pub record Custom (run : List ℕ) : Type 0 where
  pub size : length run ≤ 82
  pub whole : well_formed (length run) 0 (tags_of run) ≡ true

pub record Firmware (firmware : List ℕ) : Type 0 where
  pub some : length firmware ≡ 0 → ⊥
  pub size : length firmware ≤ 4294967039

pub record Accepted (firmware custom : List ℕ) : Type 0 where
  pub firmware_ok : Firmware firmware
  pub custom_ok : Custom custom

pub custom_accepted : (run : List ℕ) → custom_check run ≡ 0 → Custom run
unfolding custom_check
custom_accepted run =
    by_test (λ (r : ℕ). r ≡ 0 → Custom run) (ltb 82 (length run)) (λ t e. absurd (omega arith))
    (λ f. by_test (λ (r : ℕ). r ≡ 0 → Custom run) (well_formed (length run) 0 (tags_of run))
    (λ t e. record { size = ltb-false _ _ f; whole = t })
    (λ t e. absurd (omega arith)))

firmware-accepted : (f : List ℕ) → firmware_check f ≡ 0 → Firmware f
firmware-accepted f =
    by_test (λ (r : ℕ). r ≡ 0 → Firmware f) (eqb (length f) 0) (λ t e. absurd (omega arith))
    (λ n. by_test (λ (r : ℕ). r ≡ 0 → Firmware f) (ltb 4294967039 (length f)) (λ t e. absurd (omega arith))
    (λ t e. record { some = eqb-false _ _ n; size = ltb-false _ _ t }))

buffer_accepted : (b : List ℕ) → buffer_check b ≡ 0 → length b ≡ 256
buffer_accepted b =
    by_test (λ (r : ℕ). r ≡ 0 → length b ≡ 256) (eqb (length b) 256) (λ t e. eqb-true _ _ t) (λ t e. absurd (omega arith))

pub accepted : (firmware custom : List ℕ) → fields_check firmware custom ≡ 0 → Accepted firmware custom
unfolding fields_check
accepted f c e =
    let checks : List ℕ = firmware_check f ∷ custom_check c ∷ [] in
    record { firmware_ok = firmware-accepted f (zero_at checks 0 e); custom_ok = custom_accepted c (zero_at checks 1 e) }

-- what the second call accepts
pub written : (b f c : List ℕ) → write_check b f c ≡ 0 → (length b ≡ 256) × (fields_check f c ≡ 0)
unfolding write_check
written b f c e =
    let checks : List ℕ = buffer_check b ∷ fields_check f c ∷ [] in
    (buffer_accepted b (zero_at checks 0 e), zero_at checks 1 e)

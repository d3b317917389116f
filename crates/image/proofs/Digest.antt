-- What the code hashes is what the definition says.
-- Assumes nothing.
use Prim.Native.Nat.{ℕ, ◌+◌, ◌-◌, ◌<◌, ◌≤◌}
use mathlib.Core.List.{List, ◌++◌}
use mathlib.Core.Path.{◌≡◌, ◌∙◌}
use native.Mathlib.Omega.{arith}
use lib.ListN.{length, take, drop, length-append, length-take}
use Rattle.std.specs.Prelude.{Result, Ok, Err}
use Rattle.refusal.specs.Numbers.{numbered}
use Rattle.refusal.specs.declared.Refusal.{Refusal}
use Rattle.header.specs.Checks.{size_of}
use Rattle.header.specs.Lookup.{covered_of}
use Rattle.sha256.specs.Digest.{digest, longest_of_all, answer_up_to}
use Rattle.header.proofs.Lookups.{covered-short}
use Rattle.sha256.proofs.Answers.{short_enough}
use Rattle.image.specs.Verdict.{firmware_of, digest_of}

-- the firmware, as the code cuts it out
pub firmware-is : (i : List ℕ) (n : ℕ) → n ≡ size_of i → take (256 + n - 256) (drop 256 i) ≡ firmware_of i
firmware-is i n e = let m : 256 + n - 256 ≡ size_of i = omega arith in rw m

is-ok : {A : Type 0} (r : Result A Refusal) (x : A) → numbered r ≡ Ok x → r ≡ Ok x
is-ok (Ok y) x e = cc
is-ok (Err d) x e = cc

-- two pieces as long as a header and a firmware may be have a digest, whatever they hold
pub has_digest :
    (a b : List ℕ) (r : Result (List ℕ) Refusal) →
    length a ≤ 256 →
    length b ≤ 4294967552 →
    numbered r ≡ answer_up_to longest_of_all (a ++ b) →
    r ≡ Ok (digest (a ++ b))
has_digest a b r p q e =
    let l : length (a ++ b) ≤ longest_of_all = rw (length-append a b) (omega arith) in
    is-ok r _ (e ∙ short_enough longest_of_all (a ++ b) l)

pub digest-is :
    (i a b : List ℕ) (r : Result (List ℕ) Refusal) →
    size_of i < 4294967296 →
    a ≡ covered_of i →
    b ≡ firmware_of i →
    numbered r ≡ answer_up_to longest_of_all (a ++ b) →
    r ≡ Ok (digest_of i)
unfolding digest_of
digest-is i a b r s p q e =
    let l : length (a ++ b) ≤ longest_of_all = rw (length-append a b, p, q, length-take) (omega (arith, covered-short i)) in
    is-ok r _ (e ∙ short_enough longest_of_all (a ++ b) l ∙ rw (p, q))

-- Equal bytes are parsed into equal words.
-- Assumes nothing.
use Rattle.std.proofs.Common.{◌≡◌, ℕ, zero, suc, ◌+◌, ◌-◌, ◌*◌, ◌<◌, ◌≤◌, List, ◌++◌, length, get_or, take, drop, refl, ap, ◌∙◌, add_assoc, zero-add, arith, length-append}
use native.Mathlib.Numerals.{unary_clauses}
use Rattle.std.proofs.Math.Seq.{take-suc}
use Rattle.std.proofs.lemmas.List.{drop-drop, get_or-take, get_or-drop}
use Rattle.std.specs.Simd.{first_chunks}
use Rattle.sha256.specs.Message.{pad_to, word_at, words_at}
use Rattle.sha256.specs.Reading.{Same64}
use Rattle.sha256.proofs.Padding.{in_first, in_second}

pub length-words : (p : List ℕ) (i n : ℕ) → length (words_at p i n) ≡ n
unfolding words_at
length-words p i zero = refl
length-words p i (suc n) = simp (length-append, length-words p i n) (omega arith)

same-words : (x y : List ℕ) (i j n : ℕ) → ((k : ℕ) → k < 4 * n → get_or x (i + k) 0 ≡ get_or y (j + k) 0) → words_at x i n ≡ words_at y j n
unfolding words_at
same-words x y i j zero e = refl
same-words x y i j (suc n) e =
    let at : (c : ℕ) → c < 4 → get_or x (i + 4 * n + c) 0 ≡ get_or y (j + 4 * n + c) 0 = λ c h. rw (add_assoc i (4 * n) c, add_assoc j (4 * n) c) (e (4 * n + c) (omega arith)) in
    cc (same-words x y i j n (λ k h. e k (omega arith)), e (4 * n) (omega arith), at 1 (omega arith), at 2 (omega arith), at 3 (omega arith))

pub same_block : (x y : List ℕ) (i j : ℕ) → Same64 x i y j → words_at x i 16 ≡ words_at y j 16
same_block x y i j e = same-words x y i j 16 (λ k h. e k (omega arith))

-- a block taken out of x
pub block_of : (x : List ℕ) (i : ℕ) → words_at (take 64 (drop i x)) 0 16 ≡ words_at x i 16
block_of x i = same_block (take 64 (drop i x)) x 0 i (λ k h. simp (zero-add, get_or-take 64 (drop i x) k 0 h, get_or-drop i x k 0))

pub chunk_at : (n k i : ℕ) (x d : List ℕ) → i < k → get_or (first_chunks n k x) i d ≡ take n (drop (n * i) x)
chunk_at n zero i x d h = absurd (omega arith)
chunk_at n (suc k) zero x d h = simp unary_clauses
chunk_at n (suc k) (suc i) x d h = chunk_at n k i (drop n x) d (omega arith) ∙ rw drop-drop (ap (λ (j : ℕ). take n (drop j x)) (omega arith))

module _ (a b : List ℕ) (n i : ℕ) where
  pub block_in_first : i + 64 ≤ length a → words_at a i 16 ≡ words_at (pad_to n (a ++ b)) i 16
  block_in_first h = same_block a (pad_to n (a ++ b)) i i (λ k l. in_first a b n (i + k) (omega arith))

  pub block_in_second : length a ≤ i → i - length a + 64 ≤ length b → words_at b (i - length a) 16 ≡ words_at (pad_to n (a ++ b)) i 16
  block_in_second h l =
      same_block b (pad_to n (a ++ b)) (i - length a) i
      (λ k u. ap (λ (j : ℕ). get_or b j 0) (omega arith) ∙ in_second a b n (i + k) (omega arith) (omega arith))

-- a list of words, each of which is read from four bytes
pub words_of : (ws p : List ℕ) (n : ℕ) → ((t : ℕ) → t < n → get_or ws t 0 ≡ word_at p (4 * t)) → n ≤ length ws → take n ws ≡ words_at p 0 n
unfolding words_at
words_of ws p zero e h = refl
words_of ws p (suc n) e h = rw (take-suc ws n 0) (cc (words_of ws p n (λ t l. e t (omega arith)) (omega arith), e n (omega arith), zero-add (4 * n)))

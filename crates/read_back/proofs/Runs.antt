-- The runs that the writer accepts are the encoded lists of allowed tags.
-- Assumes nothing.
use Prim.Native.Nat.{ℕ, zero, suc, ◌+◌, ◌-◌, ◌*◌, ◌/◌, ◌%◌, ◌<◌, ◌≤◌}
use mathlib.Core.Bool.{true, false, not, ◌&&◌}
use mathlib.Core.List.{List, [], ◌∷◌, ◌++◌, append_assoc}
use mathlib.Core.Path.{◌≡◌, refl, sym, ap, ◌∙◌}
use native.Mathlib.Nat.{zero-add}
use native.Mathlib.Numerals.{add-one}
use native.Mathlib.Omega.{arith}
use lib.Dec.{eqb}
use lib.ListN.{length, take, drop, length-append, length-drop, take-append-drop, drop_of_length-le}
use lib.Seq.{drop-cons, drop-drop, length-take-le}
use borrow.Author.Tests.{le-ltb, eqb-true, eq-eqb}
use Rattle.header.specs.Numbers.{byte_at, number_at}
use Rattle.header.specs.Walk.{tag_at, Walk, walk}
use Rattle.header.specs.declared.tags.Tag.{Tag}
use Rattle.writer.specs.Custom.{named, tags_of, well_formed, custom_check}
use Rattle.writer.specs.Layout.{le_bytes, tag_bytes}
use Rattle.compare.proofs.Tests.{never, and_left}
use Rattle.header.proofs.Numbers.{low_byte}
use Rattle.header.proofs.Walk.{Good, walk_ind}
use Rattle.writer.proofs.Accepted.{custom_accepted}
use Rattle.writer.proofs.Run.{well_formed_from, gap, at_end}
use Rattle.writer.proofs.Stores.{tag_length}
use Rattle.read_back.specs.Runs as R
use Rattle.read_back.specs.Runs.{Entry, Allowed, AllAllowed, encode, Made, Runs}
use Rattle.read_back.proofs.Passing.{head_custom, rest_whole}
use Rattle.read_back.proofs.Standing.{Laid, laid}

-- encoded tags are met one right behind the other
encoded :
    (s : List ℕ) (p : ℕ) (es : List Entry) →
    AllAllowed es →
    drop p s ≡ encode es →
    p + length (encode es) ≡ length s →
    well_formed_from s (length s) p ≡ true
unfolding encode well_formed
encoded s p [] a e n = at_end s (length s) p (omega arith) (omega arith)
encoded s p (x ∷ es) (R.one ok a) e n =
    let k : ℕ = x.kind in
    let c : List ℕ = x.content in
    let q : ℕ = p + 4 + length c in
    let m : q + length (encode es) ≡ length s = sym (sum c) ∙ n in
    let l : Laid s (length s) p q k c (encode es) =
    laid s (length s) p q k c (encode es) e ok.length-fits refl (omega arith)
    (record { fits = ok.kind_fits; typed = ok.typed; unpadded = ok.unpadded }) in
    rw l.walked (simp (eq-eqb (p + 4) (p + 4) refl, ok.unnamed) (encoded s q es a l.after m))
  where
    sum : (c : List ℕ) → p + length (tag_bytes x.kind c ++ encode es) ≡ p + 4 + length c + length (encode es)
    sum c = rw (length-append, tag_length) (omega arith)

-- bytes that are read as a number are that number's bytes
bytes_of : (s : List ℕ) → ((p : ℕ) → byte_at s p < 256) → (n p : ℕ) → p + n ≤ length s → le_bytes n (number_at n s p) ≡ take n (drop p s)
unfolding le_bytes number_at
bytes_of s b zero p l = refl
bytes_of s b (suc n) p l =
    let x : ℕ = byte_at s p in
    let m : ℕ = number_at n s (p + 1) in
    let h : x < 256 = b p in
    let low : (x + 256 * m) % 256 ≡ x = omega arith in
    let high : (x + 256 * m) / 256 ≡ m = omega arith in
    let next : drop p s ≡ x ∷ drop (p + 1) s = rw add-one (drop-cons s p 0 (omega arith)) in
    rw (low, high, next) (ap (λ (t : List ℕ). x ∷ t) (bytes_of s b n (p + 1) (omega arith)))

-- a tag of the bytes s, and what is behind it
tag-bytes :
    (s : List ℕ) → ((p : ℕ) → byte_at s p < 256) → (p n : ℕ) →
    n ≡ number_at 2 s (p + 2) →
    p + 4 + n ≤ length s →
    drop p s ≡ tag_bytes (number_at 2 s p) (take n (drop (p + 4) s)) ++ drop (p + 4 + n) s
unfolding tag_bytes
tag-bytes s b p n e l =
    let size : length (take n (drop (p + 4) s)) ≡ number_at 2 s (p + 2) = length-take-le n (drop (p + 4) s) (rw length-drop (omega arith)) ∙ e in
    let q : p + 2 + 2 ≡ p + 4 = omega arith in
    let one : drop p s ≡ take 2 (drop p s) ++ drop (p + 2) s = cut 2 p in
    let two : drop (p + 2) s ≡ take 2 (drop (p + 2) s) ++ drop (p + 4) s = cut 2 (p + 2) ∙ rw q in
    rw (size, bytes_of s b 2 p (omega arith), bytes_of s b 2 (p + 2) (omega arith))
    (one ∙ ap (λ (r : List ℕ). take 2 (drop p s) ++ r) (two ∙ ap (λ (r : List ℕ). take 2 (drop (p + 2) s) ++ r) (cut n (p + 4)))
    ∙ simp append_assoc)
  where
    cut : (n p : ℕ) → drop p s ≡ take n (drop p s) ++ drop (p + n) s
    cut n p = sym (take-append-drop n (drop p s)) ∙ ap (λ (r : List ℕ). take n (drop p s) ++ r) (drop-drop n p s)

-- an accepted run is made of tags
module _ (s : List ℕ) (b : (p : ℕ) → byte_at s p < 256) where
  two_bytes : (p : ℕ) → number_at 2 s p < 65536
  unfolding number_at
  two_bytes p = omega (arith, b p, b (p + 1))

  made_tag : (p : ℕ) (t : Tag) → Good s (length s) p t → t.at ≡ p + 4 → named t.kind ≡ false → Made (drop t.next s) → Made (drop p s)
  unfolding encode
  made_tag p t g a unnamed m =
      let place : t.at - 4 ≡ p = omega arith in
      let is : t ≡ tag_at s p = rw place at g.is in
      let kind : t.kind ≡ number_at 2 s p = ap (λ (t : Tag). t.kind) is in
      let size : t.len ≡ number_at 2 s (p + 2) = ap (λ (t : Tag). t.len) is in
      let low : byte_at s p ≡ 0xFF → ⊥ = rw place at g.unpadded in
      let c : List ℕ = take t.len (drop (p + 4) s) in
      let l : length c ≡ t.len = length-take-le t.len (drop (p + 4) s) (rw length-drop (omega (arith, g.inside))) in
      let e : Entry = record { kind = t.kind; content = c } in
      let ok : Allowed e =
      record {
        typed = g.typed;
        unpadded = λ f. low (sym (low_byte s p (b p)) ∙ ap (λ (k : ℕ). k % 256) (sym kind) ∙ f);
        unnamed = unnamed;
        kind_fits = rw kind (two_bytes p);
        length-fits = rw (l, size) (two_bytes (p + 2));
      } in
      record {
        entries = e ∷ m.entries;
        allowed = R.one {e = e} ok m.allowed;
        same =
            tag-bytes s b p t.len size (omega (arith, g.inside))
            ∙ rw (kind, ← a, ← g.leads) (ap (λ (r : List ℕ). tag_bytes (number_at 2 s p) (take t.len (drop t.at s)) ++ r) m.same);
      }

  made : well_formed (length s) 0 (tags_of s) ≡ true → Made s
  unfolding encode well_formed
  made =
      walk_ind s (length s) (λ (p : ℕ) (w : Walk). well_formed (length s) p w.tags ≡ true → Made (drop p s))
      (λ p n d h.
      let e : p ≡ length s = eqb-true p (length s) h in
      record { entries = []; allowed = R.none; same = drop_of_length-le s {i = p} (omega arith) })
      (λ p q l m ih h. never (sym h ∙ gap s (length s) p q (omega arith) l))
      (λ p t g ih h.
      let ts : List Tag = (walk s (length s) t.next).tags in
      let a : eqb t.at (p + 4) ≡ true = and_left _ (not (named t.kind) && well_formed (length s) t.next ts) h in
      made_tag p t g (eqb-true _ _ a) (head_custom (length s) p t ts h) (ih (rest_whole (length s) p t ts h)))
      0

pub runs : Runs
unfolding custom_check
runs =
    record {
      accepted = λ es a l.
          let w : well_formed_from (encode es) (length (encode es)) 0 ≡ true = encoded (encode es) 0 es a refl (zero-add _) in
          simp (le-ltb 82 (length (encode es)) l, w);
      no_others = λ run b e. made run b (custom_accepted run e).whole;
    }

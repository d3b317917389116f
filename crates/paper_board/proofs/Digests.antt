-- The digests of the two images, by computation: SHA-256's six blocks in two halves, since antt takes only so many steps for one fact. The
-- hash value between the halves comes from an outside program.
-- Assumes nothing.
use Prim.Native.Nat.{ℕ, ◌/◌}
use mathlib.Core.List.{List, ◌++◌}
use mathlib.Core.Path.{◌≡◌, refl, ap, ◌∙◌}
use lib.ListN.{length}
use Rattle.header.specs.Lookup.{lookup_from, lookup, covered_of}
use Rattle.header.specs.Numbers.{number_at}
use Rattle.header.specs.Walk.{step_at, walk_in, walk}
use Rattle.image.specs.Verdict.{firmware_of, digest_of}
use Rattle.sha256.specs.Constants.{constants, initial}
use Rattle.sha256.specs.Digest.{hashed, to_bytes, digest}
use Rattle.sha256.specs.Message.{pad_to, pad, padding, word_at, words_at, M}
use Rattle.sha256.specs.Rounds.{T₁, T₂, round, rounds, plus, compress}
use Rattle.sha256.specs.Schedule.{W, before, word_after}
use Rattle.sha256.specs.Words.{σ₀, σ₁, Σ₀, Σ₁}
use Rattle.sha256.specs.declared.hash.Hash.{Hash}
use Rattle.paper_board.specs.Board.{covered, image, firmware_one, digest_one, firmware_two, digest_two, one, two}

-- the hash value after blocks 3 to 5 of p, from the one before them
abbrev last_three : List ℕ → Hash → Hash
last_three p s = compress (M p 5) (compress (M p 4) (compress (M p 3) s))

-- the hash value whose bytes are a digest
abbrev from_bytes : List ℕ → Hash
from_bytes d =
    record { a = word_at d 0; b = word_at d 4; c = word_at d 8; d = word_at d 12; e = word_at d 16; f = word_at d 20; g = word_at d 24; h = word_at d 28 }

joined :
    (m : List ℕ) (s t : Hash) →
    length (pad m) / 64 ≡ 6 →
    hashed initial (pad m) 3 ≡ s →
    last_three (pad m) s ≡ t →
    digest m ≡ to_bytes t
unfolding digest hashed
joined m s t n a b = rw n (ap to_bytes (ap (last_three (pad m)) a ∙ b))

-- ---- version 1

unfoldable message₁ : List ℕ
message₁ = covered 1 ++ firmware_one

abbrev between₁ : Hash
between₁ =
    record { a = 0x01268aa9; b = 0xddfe47cd; c = 0x75097a07; d = 0x6b2fa6c5; e = 0xb6c8ed27; f = 0xc72ef96d; g = 0xdb2723c0; h = 0xf89c75ca }

first_half₁ : hashed initial (pad message₁) 3 ≡ between₁
unfolding covered message₁ σ₀ σ₁ Σ₀ Σ₁ W before word_after constants T₁ T₂ round rounds plus compress pad_to padding words_at hashed
first_half₁ = refl

second_half₁ : last_three (pad message₁) between₁ ≡ from_bytes digest_one
unfolding covered message₁ σ₀ σ₁ Σ₀ Σ₁ W before word_after constants T₁ T₂ round rounds plus compress pad_to padding words_at
second_half₁ = refl

blocks₁ : length (pad message₁) / 64 ≡ 6
unfolding covered message₁ pad_to padding
blocks₁ = refl

hashed_is₁ : covered_of one ++ firmware_of one ≡ message₁
unfolding covered image one message₁ number_at step_at walk_in walk lookup_from lookup
hashed_is₁ = refl

pub digest-one : digest_of one ≡ digest_one
unfolding digest_of
digest-one = ap digest hashed_is₁ ∙ joined message₁ between₁ (from_bytes digest_one) blocks₁ first_half₁ second_half₁

-- ---- version 2

unfoldable message₂ : List ℕ
message₂ = covered 2 ++ firmware_two

abbrev between₂ : Hash
between₂ =
    record { a = 0x26126b77; b = 0xb390433f; c = 0x8df20663; d = 0xeaafbcad; e = 0xc3aed7ea; f = 0xdf7bb7b2; g = 0xbdcae466; h = 0x752bb0d7 }

first_half₂ : hashed initial (pad message₂) 3 ≡ between₂
unfolding covered message₂ σ₀ σ₁ Σ₀ Σ₁ W before word_after constants T₁ T₂ round rounds plus compress pad_to padding words_at hashed
first_half₂ = refl

second_half₂ : last_three (pad message₂) between₂ ≡ from_bytes digest_two
unfolding covered message₂ σ₀ σ₁ Σ₀ Σ₁ W before word_after constants T₁ T₂ round rounds plus compress pad_to padding words_at
second_half₂ = refl

blocks₂ : length (pad message₂) / 64 ≡ 6
unfolding covered message₂ pad_to padding
blocks₂ = refl

hashed_is₂ : covered_of two ++ firmware_of two ≡ message₂
unfolding covered image two message₂ number_at step_at walk_in walk lookup_from lookup
hashed_is₂ = refl

pub digest-two : digest_of two ≡ digest_two
unfolding digest_of
digest-two = ap digest hashed_is₂ ∙ joined message₂ between₂ (from_bytes digest_two) blocks₂ first_half₂ second_half₂

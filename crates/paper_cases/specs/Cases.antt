-- Document 01, "Bench cases": the starred ones, all of them, one list under one claim (proofs/Proved.antt).
use Rattle.std.specs.Prelude.{ℕ, ◌/◌, ◌%◌, true, cond, ◌&&◌, Result, Ok, Err, ◌≡◌, eqb, get_or, replicate}
use mathlib.Core.List.{List, [], ◌∷◌, ◌++◌, Memᴰ}
use Rattle.std.proofs.lemmas.List.Edits.{sets}
use Rattle.compare.specs.Compare.{all}
use Rattle.flash.specs.declared.geometry.Geometry.{Geometry}
use Rattle.flash.specs.declared.steps.Step.{Step}
use Rattle.flash.specs.declared.steps.Step.TheVariants.{Byte}
use Rattle.header.specs.Checks.{header_check}
use Rattle.header.specs.Lookup.{lookup}
use Rattle.header.specs.Numbers.{number_at}
use Rattle.header.specs.declared.tags.Tag.{Tag}
use Rattle.slots.specs.Flags.{new, swapping, updated, flags, lowest_unfinished}
use Rattle.slots.specs.Places.{trailer_of, image_of}
use Rattle.slots.specs.declared.places.Slot.TheVariants.{Boot, Update}
use Rattle.loader.specs.Checks.{image_checks}
use Rattle.loader.specs.Decisions.{next_step}
use Rattle.loader.specs.States.{staged}
use Rattle.loader.specs.Answers.{Answer}
use Rattle.loader.specs.Answers as A

-- an input, and what is asked of it
pub data Input : Type 0 where
  -- the flag byte of a flash whose UPDATE is sound with 70: what the next step goes by
  flag_byte : (byte : ℕ) → Input
  -- bytes at a place of a header that is FF elsewhere: lookup of a type
  tags : (place : ℕ) (bytes : List ℕ) (kind : ℕ) → Input
  -- the size in the header of an image in BOOT: the header's checks
  size : ℕ → Input

-- what a case says, in the paper's words
pub data Said : Type 0 where
  all_new : Said
  all_updated : Said
  -- the lowest sector whose flag isn't 0, its flag, and the step that is due
  sector : (i flag : ℕ) (due : Step) → Said
  -- a tag's content: its place and length, and its value as a number
  content : (place len value : ℕ) → Said
  fits : Said
  refused : (number : ℕ) → Said
  -- anything else
  other : Said

pub record Case : Type 0 where
  pub input : Input
  pub says : Said

-- geometry G, with a flash of 1792 bytes: FF but for some bytes at a place
abbrev pub G : Geometry
G = record { size = 256; count = 2; boot = 0; update = 768; swap = 1536 }

abbrev pub flash_with : ℕ → List ℕ → List ℕ
flash_with place bytes = sets (replicate 1792 0xFF) place bytes

-- ---- flags

-- the flag byte at 1530, the state and the closing bytes of UPDATE
abbrev pub staged_with : ℕ → List ℕ
staged_with byte = flash_with 1530 (byte ∷ 0x70 ∷ 0x42 ∷ 0x4F ∷ 0x4F ∷ 0x54 ∷ [])

-- a sector and its flag with the loader's step, or its refusal
abbrev pub step_says : ℕ → ℕ → Answer → Said
step_says i v (A.Step s) = sector i v s
step_says i v (A.LastStep s) = other
step_says i v (A.Boot n) = other
step_says i v (A.Refused n) = refused n

-- UPDATE is sound with 70 and all flags are F, or all 0; else by the next step the lowest sector whose flag isn't 0
abbrev pub flags_say : List ℕ → Said
flags_say f =
    let fs : List ℕ = flags G.count (trailer_of G f Update) in
    let i : ℕ = lowest_unfinished fs in
    cond (staged G f && all new fs) all_new
    (cond (staged G f && all updated fs) all_updated
    (step_says i (get_or fs i 0) (next_step image_checks G f true true)))

-- ---- headers

abbrev pub header_with : ℕ → List ℕ → List ℕ
header_with place bytes = sets (replicate 256 0xFF) place bytes

abbrev pub tag : ℕ → ℕ → List ℕ → List ℕ
tag k n bytes = k ∷ 0 ∷ n ∷ 0 ∷ bytes

abbrev pub lookup_says : List ℕ → Result Tag ℕ → Said
lookup_says h (Ok t) = content t.at t.len (number_at t.len h t.at)
lookup_says h (Err n) = refused n

-- the mark, the size n and the five mandatory tags
abbrev pub header_of : ℕ → List ℕ
header_of n =
    (0x57 ∷ 0x4F ∷ 0x4C ∷ 0x46 ∷ n % 256 ∷ n / 256 ∷ 0 ∷ 0 ∷ [])
    ++ (tag 0x01 4 (replicate 4 1)
    ++ (tag 0x02 8 (replicate 8 0)
    ++ (tag 0x30 2 (replicate 2 0)
    ++ (tag 0x03 32 (replicate 32 0)
    ++ tag 0x20 64 (replicate 64 0)))))

abbrev pub check_says : ℕ → Said
check_says n = cond (eqb n 0) fits (refused n)

-- ---- the cases

abbrev pub answer_to : Input → Said
answer_to (flag_byte byte) = flags_say (staged_with byte)
answer_to (tags p bytes k) = lookup_says (header_with p bytes) (lookup (header_with p bytes) k)
answer_to (size n) = check_says (header_check (image_of G (flash_with 0 (header_of n)) Boot))

abbrev pub case : Input → Said → Case
case i a = record { input = i; says = a }

abbrev pub cases : List Case
cases =
    case (flag_byte 0xFF) all_new
    ∷ case (flag_byte 0x00) all_updated
    ∷ case (flag_byte 0xF0) (sector 1 new (Byte 1530 0x70))
    ∷ case (flag_byte 0xF7) (sector 0 swapping (Byte 1530 0xF3))
    ∷ case (flag_byte 0x3F) (refused 20)
    ∷ case (flag_byte 0xF5) (refused 20)
    ∷ case (tags 8 (0xFF ∷ 0xFF ∷ 0x01 ∷ 0x00 ∷ 0x04 ∷ 0x00 ∷ 0x05 ∷ 0x00 ∷ 0x00 ∷ 0x00 ∷ []) 0x01) (content 14 4 5)
    ∷ case (tags 252 (tag 0x34 0 []) 0x34) (content 256 0 0)
    ∷ case (tags 252 (tag 0x34 1 []) 0x34) (refused 13)
    ∷ case (size 256) fits
    ∷ case (size 257) (refused 12)
    ∷ case (size 0) (refused 12)
    ∷ []

-- the claim: every case has its answer
abbrev pub Proved : Type 0
Proved = (c : Case) → Memᴰ c cases → answer_to c.input ≡ c.says

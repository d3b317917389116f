-- Document 01, "Bench cases": the board of the simulator's example, byte by byte, with the headers and digests of its two images. Where the
-- paper leaves a byte free, in firmware type, hint and signature, it is that of crates/simulator/stdin.
use Rattle.std.specs.Prelude.{ℕ, Bool, true, List, [], ◌∷◌, ◌++◌, ◌≡◌, replicate}
use Rattle.flash.specs.declared.geometry.Geometry.{Geometry}
use Rattle.flash.specs.declared.steps.Step.{Step}
use Rattle.flash.specs.declared.steps.Step.TheVariants.{Erase, Copy, Byte, Mark}
use Rattle.header.specs.Checks.{version_in}
use Rattle.slots.specs.Places.{image_of}
use Rattle.slots.specs.declared.places.Slot.TheVariants.{Boot}
use Rattle.loader.specs.Checks.{image_checks}
use Rattle.loader.specs.Answers as A
use Rattle.runner.specs.Runs.{Outcome, run_of}
use Rattle.runner.specs.declared.counts.StepCounts.{StepCounts}
use Rattle.power_loss.specs.Demand.{Triggered, Survives}

-- what the digest covers of a header, by the writer's list: the mark; at 4 the size, 256; at 8 the version; at 16 the timestamp; at 28 the
-- firmware type; at 34 the hint
unfoldable pub covered : ℕ → List ℕ
covered version =
    (0x57 ∷ 0x4F ∷ 0x4C ∷ 0x46 ∷ [])
    ++ (0x00 ∷ 0x01 ∷ 0x00 ∷ 0x00 ∷ [])
    ++ (0x01 ∷ 0x00 ∷ 4 ∷ 0 ∷ version ∷ replicate 3 0x00)
    ++ (0x02 ∷ 0x00 ∷ 8 ∷ 0 ∷ replicate 8 0x00)
    ++ (0x30 ∷ 0x00 ∷ 2 ∷ 0 ∷ replicate 2 0x00)
    ++ (0x10 ∷ 0x00 ∷ 32 ∷ 0 ∷ replicate 32 0x68)

-- at 70 the digest; at 106 the signature; at 174 FF, up to 256; then the firmware
unfoldable pub image : ℕ → List ℕ → List ℕ → List ℕ
image version digest firmware =
    covered version
    ++ (0x03 ∷ 0x00 ∷ 32 ∷ 0 ∷ digest)
    ++ (0x20 ∷ 0x00 ∷ 64 ∷ 0 ∷ replicate 64 0x73)
    ++ replicate 82 0xFF
    ++ firmware

-- the firmware and the digest of either; the digests were made by Python's hashlib
abbrev pub firmware_one : List ℕ
firmware_one = replicate 256 0x11

abbrev pub digest_one : List ℕ
digest_one =
    0x9A ∷ 0x91 ∷ 0xC1 ∷ 0x73 ∷ 0x44 ∷ 0x68 ∷ 0x51 ∷ 0x62 ∷ 0xCC ∷ 0xFF ∷ 0xA6 ∷ 0xC6 ∷ 0x4B ∷ 0x31 ∷ 0x24 ∷ 0x79
    ∷ 0x50 ∷ 0xE2 ∷ 0x4A ∷ 0xE5 ∷ 0xD6 ∷ 0xBF ∷ 0xEF ∷ 0x64 ∷ 0x5F ∷ 0x23 ∷ 0x75 ∷ 0xEA ∷ 0x19 ∷ 0x2B ∷ 0xBD ∷ 0xE8 ∷ []

abbrev pub firmware_two : List ℕ
firmware_two = replicate 256 0x22

abbrev pub digest_two : List ℕ
digest_two =
    0xDC ∷ 0xB1 ∷ 0x6A ∷ 0x15 ∷ 0xD1 ∷ 0x13 ∷ 0x32 ∷ 0x7F ∷ 0x48 ∷ 0xB3 ∷ 0x24 ∷ 0xD4 ∷ 0x04 ∷ 0x44 ∷ 0x0F ∷ 0x9F
    ∷ 0xE0 ∷ 0x26 ∷ 0x36 ∷ 0x8F ∷ 0x47 ∷ 0xCF ∷ 0x91 ∷ 0x99 ∷ 0x18 ∷ 0x82 ∷ 0x54 ∷ 0x42 ∷ 0xA6 ∷ 0xC0 ∷ 0x11 ∷ 0xC0 ∷ []

unfoldable pub one : List ℕ
one = image 1 digest_one firmware_one

unfoldable pub two : List ℕ
two = image 2 digest_two firmware_two

abbrev pub geometry : Geometry
geometry = record { size = 256; count = 2; boot = 0; update = 768; swap = 1536 }

-- geometry G: at 0 BOOT, at 768 UPDATE, which is triggered, at 1536 SWAP; all else FF
unfoldable pub board : List ℕ
board =
    one ++ replicate 256 0xFF
    ++ two ++ replicate 251 0xFF ++ (0x70 ∷ 0x42 ∷ 0x4F ∷ 0x4F ∷ 0x54 ∷ [])
    ++ replicate 256 0xFF

-- both answers yes
abbrev pub signed_all : List ℕ → Bool
signed_all image = true

-- the run that the simulator makes
abbrev pub unused : StepCounts
unused = record { erases = 0; copies = 0; bytes = 0; marks = 0 }

abbrev pub run : Outcome
run = run_of image_checks geometry 4096 true true board unused

-- the whole output but its last line
abbrev pub twenty_steps : List Step
twenty_steps =
    Copy 768 1536 ∷ Byte 1530 247 ∷ Erase 768 ∷ Copy 0 768 ∷ Byte 1530 243 ∷ Erase 0 ∷ Copy 1536 0 ∷ Byte 1530 240
    ∷ Erase 1536 ∷ Copy 1024 1536 ∷ Byte 1530 112 ∷ Erase 1024 ∷ Copy 256 1024 ∷ Byte 1530 48 ∷ Erase 256 ∷ Copy 1536 256 ∷ Byte 1530 0
    ∷ Byte 763 16 ∷ Mark 764 ∷ Byte 1531 48 ∷ []

-- The claim, with the loader's own verification and version rule: the board meets demand 3's premises, so nothing is lost on it; and the
-- run is the paper's, its twenty steps and then BOOT 2.
pub record PaperBoard : Type 0 where
  pub premises : Triggered signed_all geometry board
  pub survives : Survives image_checks signed_all geometry board
  pub steps : run.steps ≡ twenty_steps
  pub boots : run.answer ≡ A.Boot 0
  pub version : version_in (image_of geometry run.flash Boot) ≡ 2

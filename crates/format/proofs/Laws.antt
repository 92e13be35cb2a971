-- Laws of every method's format. Assumes nothing.
use mathlib.Core.Path.{◌≡◌, refl, sym, ap, ap₂, ◌∙◌}
use mathlib.Core.Bool.{Bool, true, false, cond}
use mathlib.Core.List.{List, [], ◌∷◌, ◌++◌}
use mathlib.Core.Logic.{◌≢◌}
use Prim.Native.Nat.{ℕ, zero, suc, ◌+◌, ◌*◌, ◌%◌, ◌^◌, ◌<◌}
use native.Mathlib.Nat.{zero-mul}
use native.Mathlib.Omega.{arith}
use lib.Bits.{bit_xor, xor_self, xor_zero_r}
use lib.Dec.{eqb, lit<}
use lib.ListN.{length, take, drop, replicate, length-replicate}
use borrow.Author.Tests.{eq-eqb, ne_eqb}
use Rattle.xor.specs.Xors.{xors}
use Rattle.xor.proofs.Lists.{xors_self}
use Rattle.crc.specs.Crc.{Bytes, Within}
use Rattle.crc.specs.Guard.{guard as crcGuard}
use Rattle.crc.specs.Blocks.{guards_of as crcGuards}
use Rattle.crc.proofs.Noticed.{noticed}
use Rattle.crc.proofs.Linear.{guard_linear}
use Rattle.castagnoli.specs.Castagnoli.{crc32c}
use Rattle.castagnoli.specs.Blocks.{guards_of as wideGuards}
use Rattle.castagnoli.proofs.Combined.{crc32c-xors}
use Rattle.castagnoli.proofs.Noticed.{noticed as wide-noticed}
use Rattle.castagnoli_words.proofs.Zeros.{blank-block}
use Rattle.checksum.specs.Changes.{OneWord, Turned, word_at}
use Rattle.checksum.specs.Checksum.{checksum}
use Rattle.checksum.specs.Machine.{start, byte_step, advance}
use Rattle.checksum.specs.Many.{checksums_of}
use Rattle.checksum.proofs.Figures.{blocks}
use Rattle.checksum.proofs.Joined.{guard-checksum, none-waits}
use Rattle.checksum.proofs.Noticed as words
use Rattle.checksum.proofs.Weighed.{checksum-lt, never_zero}
use Rattle.format.specs.Formats.{Format, guard, blank, spare, settled, register_from, Combines, guards_of}
use Rattle.format.specs.Packed.{packed, unpacked, packed_advance, sum_small, packed-joined}
use Rattle.format.specs.Methods.{t10, checksummed, large, format_of}

-- ---- which format a number means

abbrev chosen : Bool → Bool → Format
chosen two three = cond two checksummed (cond three large t10)

pub of_two : (method : ℕ) → method ≡ 2 → format_of method ≡ checksummed
unfolding format_of
of_two method e = ap (λ (b : Bool). chosen b (eqb method 3)) (eq-eqb method 2 e)

pub of_three : (method : ℕ) → method ≡ 3 → format_of method ≡ large
unfolding format_of
of_three method e =
    let not-two : method ≢ 2 = λ f. absurd (omega arith) in
    ap₂ chosen (ne_eqb method 2 not-two) (eq-eqb method 3 e)

pub of_other : (method : ℕ) → method ≢ 2 → method ≢ 3 → format_of method ≡ t10
unfolding format_of
of_other method two three = ap₂ chosen (ne_eqb method 2 two) (ne_eqb method 3 three)

-- method 2 alone carries
pub carries_two : (method : ℕ) → eqb method 2 ≡ (format_of method).carries
unfolding format_of
carries_two method = go (eqb method 2) (eqb method 3)
  where
    go : (b c : Bool) → b ≡ (chosen b c).carries
    go false false = refl
    go false true = refl
    go true c = refl

-- what holds of all three formats holds of every method's
pub of_all : (P : Format → Type 0) → P t10 → P checksummed → P large → (method : ℕ) → P (format_of method)
unfolding format_of
of_all P first second third method = go (eqb method 2) (eqb method 3)
  where
    go : (b c : Bool) → P (chosen b c)
    go false false = first
    go false true = third
    go true c = second

-- what holds of the first two holds of every method but 3
pub of_small : (P : Format → Type 0) → P t10 → P checksummed → (method : ℕ) → method ≢ 3 → P (format_of method)
unfolding format_of
of_small P first second method ne = go (eqb method 2) (eqb method 3) (ne_eqb method 3 ne)
  where
    go : (b c : Bool) → c ≡ false → P (chosen b c)
    go false false e = first
    go false true e = let o : ◌≡◌ {A = ℕ} 0 1 = cc in absurd (omega arith)
    go true c e = second

-- what holds of the first and the third holds of every method whose parity has the guard of its own data
pub of_plain : (P : Format → Type 0) → P t10 → P large → (method : ℕ) → (format_of method).carries ≡ false → P (format_of method)
unfolding format_of
of_plain P one three method = go (eqb method 2) (eqb method 3)
  where
    go : (b c : Bool) → (chosen b c).carries ≡ false → P (chosen b c)
    go false false e = one
    go false true e = three
    go true c e = let o : ◌≡◌ {A = ℕ} 0 1 = cc in absurd (omega arith)

-- and what holds of the second, of every method whose parity carries
pub of_carrying : (P : Format → Type 0) → P checksummed → (method : ℕ) → (format_of method).carries ≡ true → P (format_of method)
unfolding format_of
of_carrying P two method = go (eqb method 2) (eqb method 3)
  where
    go : (b c : Bool) → (chosen b c).carries ≡ true → P (chosen b c)
    go true c e = two
    go false false e = let o : ◌≡◌ {A = ℕ} 0 1 = cc in absurd (omega arith)
    go false true e = let o : ◌≡◌ {A = ℕ} 0 1 = cc in absurd (omega arith)

-- there the data are one piece of 512 bytes
pub carried-piece : (method : ℕ) → (format_of method).carries ≡ true → (format_of method).data_length ≡ 512
carried-piece = of_carrying (λ F. F.data_length ≡ 512) refl

-- ---- guards of two bytes, and of four

pub two_bytes : (method : ℕ) → method ≢ 3 → 256 ^ (format_of method).quarter ≡ 65536
two_bytes = of_small (λ F. 256 ^ F.quarter ≡ 65536) refl refl

pub four_bytes : (method : ℕ) → method ≡ 3 → 256 ^ (format_of method).quarter ≡ 4294967296
four_bytes method e = ap (λ (F : Format). 256 ^ F.quarter) (of_three method e)

-- a register starts with no more bits than a guard has
pub start-narrow : (method : ℕ) → (format_of method).start < 256 ^ (format_of method).quarter
start-narrow = of_all (λ F. F.start < 256 ^ F.quarter) (lit< tt) (lit< tt) (lit< tt)

-- what a state may keep of a register has thirty-two bits, where a byte waits only if one can
pub kept_small : (method p value waiting : ℕ) → value < 256 ^ (format_of method).quarter → waiting < 256 → ((format_of method).waits p ≡ false → waiting ≡ 0)
    → register_from (format_of method) value waiting < 2 ^ 32
kept_small method p value waiting =
    of_all (λ F. value < 256 ^ F.quarter → waiting < 256 → (F.waits p ≡ false → waiting ≡ 0) → register_from F value waiting < 2 ^ 32)
    (λ h w none. omega arith) (λ h w none. omega arith) (λ h w none. omega (arith, none refl)) method

-- ---- method 1: its guard is the CRC

pub guard-t10 : (bytes : List ℕ) → guard t10 bytes ≡ crcGuard bytes
unfolding guard crcGuard
guard-t10 bytes = refl

pub guards-t10 : (n stride : ℕ) (bytes : List ℕ) → crcGuards n stride bytes ≡ guards_of t10 n stride bytes
unfolding guards_of crcGuards
guards-t10 zero stride bytes = refl
guards-t10 (suc n) stride bytes =
    ap₂ (λ (g : ℕ) (gs : List ℕ). g ∷ gs) (sym (guard-t10 (take 512 bytes))) (guards-t10 n stride (drop stride bytes))

guard-zeros : (n : ℕ) → crcGuard (replicate n 0) ≡ 0
guard-zeros n =
    ap (λ (k : ℕ). crcGuard (replicate k 0)) (sym (length-replicate {A = ℕ} n 0)) ∙ ap crcGuard (sym (xors_self (replicate n 0)))
    ∙ guard_linear (replicate n 0) (replicate n 0) refl ∙ xor_self (crcGuard (replicate n 0))

blank-t10 : blank t10 ≡ 0
blank-t10 = guard-t10 (replicate 512 0) ∙ guard-zeros 512

pub spare-t10 : (n : ℕ) → spare t10 n ≡ 0
unfolding spare
spare-t10 n = ap (λ (b : ℕ). b * (n % 2)) blank-t10 ∙ zero-mul (n % 2)

-- a block of zeros has guard 0, so guards combine as they are
pub blank-first : blank (format_of 1) ≡ 0
unfolding format_of
blank-first = blank-t10

pub settled-first : (n : ℕ) → settled (format_of 1) n ≡ 0
unfolding format_of settled
settled-first n = spare-t10 n

combines-t10 : Combines t10
combines-t10 a b ha hb =
    guard-t10 (xors a b) ∙ guard_linear a b (ha ∙ sym hb)
    ∙ sym (ap₂ bit_xor (ap₂ bit_xor (guard-t10 a) (guard-t10 b)) blank-t10 ∙ xor_zero_r (bit_xor (crcGuard a) (crcGuard b)))

-- ---- method 3: its guard is CRC-32C

pub guard_large : (bytes : List ℕ) → guard large bytes ≡ crc32c bytes
unfolding guard crc32c
guard_large bytes = refl

pub guards-large : (n stride : ℕ) (bytes : List ℕ) → wideGuards n stride bytes ≡ guards_of large n stride bytes
unfolding guards_of wideGuards
guards-large zero stride bytes = refl
guards-large (suc n) stride bytes =
    ap₂ (λ (g : ℕ) (gs : List ℕ). g ∷ gs) (sym (guard_large (take 4096 bytes))) (guards-large n stride (drop stride bytes))

blank-large : blank large ≡ 0x98F94189
blank-large = guard_large (replicate 4096 0) ∙ blank-block

settled-third : (n : ℕ) → settled large n ≡ 0x98F94189 * (n % 2)
unfolding settled spare
settled-third n = ap (λ (b : ℕ). b * (n % 2)) blank-large

pub settled-large : (method members : ℕ) → method ≡ 3 → settled (format_of method) members ≡ 0x98F94189 * (members % 2)
settled-large method members e = ap (λ (F : Format). settled F members) (of_three method e) ∙ settled-third members

combines-large : Combines large
combines-large a b ha hb =
    guard_large (xors a b) ∙ crc32c-xors a b (ha ∙ sym hb)
    ∙ sym (ap₂ bit_xor (ap₂ bit_xor (guard_large a) (guard_large b)) (guard_large (replicate 4096 0) ∙ ap (λ (n : ℕ). crc32c (replicate n 0)) (sym ha)))

-- ---- guards of data combine, up to that of a block of zeros

pub combines : (method : ℕ) → (format_of method).carries ≡ false → Combines (format_of method)
combines = of_plain Combines combines-t10 combines-large

-- what lies within as many successive bits as a guard reaches over is noticed
abbrev pub Notices : Format → Type 0
Notices F = (a b : List ℕ) → Bytes a → Bytes b → length a ≡ length b → Within F.reach (F.bits a) (F.bits b) → a ≢ b → guard F a ≢ guard F b

pub notices : (method : ℕ) → (format_of method).carries ≡ false → Notices (format_of method)
notices =
    of_plain Notices (λ a b ha hb long near ne e. noticed a b ha hb long near ne (sym (guard-t10 a) ∙ e ∙ guard-t10 b))
    (λ a b ha hb long near ne e. wide-noticed a b ha hb long near ne (sym (guard_large a) ∙ e ∙ guard_large b))

-- ---- method 2: its guard is the checksum

pub guard-checksummed : (bytes : List ℕ) → guard checksummed bytes ≡ checksum bytes
unfolding guard packed_advance packed unpacked
guard-checksummed bytes =
    let r = advance 0 start bytes in
    let low : (r.value + 65536 * r.waiting) % 65536 ≡ r.value = omega (arith, sum_small 0 65535 bytes) in
    low ∙ guard-checksum bytes

pub guards-checksummed : (n stride : ℕ) (bytes : List ℕ) → checksums_of n stride bytes ≡ guards_of checksummed n stride bytes
unfolding guards_of checksums_of
guards-checksummed zero stride bytes = refl
guards-checksummed (suc n) stride bytes =
    ap₂ (λ (g : ℕ) (gs : List ℕ). g ∷ gs) (sym (guard-checksummed (take 512 bytes))) (guards-checksummed n stride (drop stride bytes))

pub blank-checksummed : blank (format_of 2) ≡ 0xFFFF
unfolding format_of
blank-checksummed = guard-checksummed (replicate 512 0) ∙ blocks.0

pub checksum-guard : (bytes : List ℕ) → guard (format_of 2) bytes ≡ checksum bytes
unfolding format_of
checksum-guard bytes = guard-checksummed bytes

pub guard-some : (bytes : List ℕ) → 0 < guard (format_of 2) bytes
guard-some bytes = rw (checksum-guard bytes) (never_zero bytes)

pub guard-narrow : (bytes : List ℕ) → guard (format_of 2) bytes < 65536
guard-narrow bytes = rw (checksum-guard bytes) (checksum-lt bytes)

-- a change of one aligned word is noticed, unless it turns 0000h into FFFFh or back; and that is not
abbrev pub NoticesWord : Format → Type 0
NoticesWord F = (k : ℕ) (a b : List ℕ) → OneWord k a b → Bytes a → Bytes b → ¬ Turned (word_at a k) (word_at b k) → a ≢ b → guard F a ≢ guard F b

pub notices_word : (method : ℕ) → (format_of method).carries ≡ true → NoticesWord (format_of method)
notices_word =
    of_carrying NoticesWord
    (λ k a b one ha hb turned ne e. words.noticed k a b one ha hb turned ne (sym (guard-checksummed a) ∙ e ∙ guard-checksummed b))

abbrev pub MissesTurned : Format → Type 0
MissesTurned F = (k : ℕ) (a b : List ℕ) → OneWord k a b → Turned (word_at a k) (word_at b k) → guard F a ≡ guard F b

pub turned_unnoticed : (method : ℕ) → (format_of method).carries ≡ true → MissesTurned (format_of method)
turned_unnoticed =
    of_carrying MissesTurned (λ k a b one turned. guard-checksummed a ∙ words.unnoticed k a b one turned ∙ sym (guard-checksummed b))

-- what the guards in the tags of a right stripe combine to: zero, but by method 3
pub settled-none : (method members : ℕ) → method ≢ 3 → settled (format_of method) members ≡ 0
unfolding settled
settled-none method members = of_small (λ F. cond F.carries 0 (spare F members) ≡ 0) (spare-t10 members) refl method

-- a byte waits only where the position is odd: at an even one the register has sixteen bits, if it had where the bytes begin at one
pub none-waits-even : (at r : ℕ) (bytes : List ℕ) → (at % 2 ≡ 0 → r < 65536) → (at + length bytes) % 2 ≡ 0 → (format_of 2).advance at r bytes < 65536
unfolding format_of packed_advance packed unpacked
none-waits-even at r bytes h even =
    let none = none-waits at (unpacked r) bytes (λ e. omega (arith, h e)) even in
    omega (arith, sum_small at r bytes, none)

-- and at an odd one it is the last that came
one-waits : (at r b : ℕ) → at % 2 ≡ 0 → packed_advance at r (b ∷ []) ≡ r % 65536 + 65536 * (b % 256)
unfolding packed_advance packed unpacked advance byte_step
one-waits at r b even = ap (λ (p : ℕ). packed (byte_step p (unpacked r) b)) even

pub last-waits-odd : (at r : ℕ) (bytes : List ℕ) (b : ℕ) → (at + length bytes) % 2 ≡ 0
    → (format_of 2).advance at r (bytes ++ (b ∷ [])) ≡ (format_of 2).guard_of ((format_of 2).advance at r bytes) + 65536 * (b % 256)
unfolding format_of
last-waits-odd at r bytes b even = packed-joined at r bytes (b ∷ []) ∙ one-waits (at + length bytes) (packed_advance at r bytes) b even

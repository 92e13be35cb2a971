-- The formats by their method numbers. Assumes nothing.
use Rattle.std.specs.Prelude.{refl, true, false, cond, ℕ, ◌%◌, ◌^◌, take, eqb}
use Rattle.std.proofs.lemmas.Nat.{xor_lt}
use Rattle.std.proofs.Common.{arith, lit<}
use Rattle.crc.specs.Crc.{bits_of}
use Rattle.crc.specs.Guard.{run}
use Rattle.crc.proofs.Joined.{run-nil, run-joined}
use Rattle.crc.proofs.Noticed.{run-lt}
use Rattle.castagnoli.specs.Reflected.{bits_up_of}
use Rattle.castagnoli.specs.Castagnoli as wide
use Rattle.castagnoli.proofs.Joined as wide-joined
use Rattle.castagnoli.proofs.Mirrored.{advance-lt}
use Rattle.checksum.specs.Checksum.{first}
use Rattle.format.specs.Formats.{Format}
use Rattle.format.specs.Packed.{packed_advance, may_wait, packed-nil, packed-joined, packed_small, packed-alone}

-- method 1: 512 bytes of data, 8 of tag, CRC-16/T10-DIF
abbrev pub t10 : Format
t10 =
    record {
      data_length = 512;
      tag_length = 8;
      block_length = 520;
      quarter = 2;
      scale = 1;
      limit = 2 ^ 16;
      start = 0;
      advance = λ at. run;
      guard_of = λ r. r;
      bits = bits_of;
      reach = 16;
      carries = false;
      waits = λ at. false;
      advance-nil = λ at. run-nil;
      advance-joined = λ at. run-joined;
      start_small = lit< tt;
      advance_small = λ at r bytes h. run-lt r bytes h;
      limit-most = omega arith;
      none-waits = λ bytes h. run-lt 0 (take 512 bytes) (lit< tt);
      guard_small = λ bytes. run-lt 0 bytes (lit< tt);
      block_parts = refl;
      tag_quarters = refl;
      data_most = omega arith;
      data_pieces = refl;
      quarter_least = omega arith;
      quarter-most = omega arith;
      scaled = refl;
    }

-- method 2: the same lengths, the rotating checksum
abbrev pub checksummed : Format
checksummed =
    record {
      data_length = 512;
      tag_length = 8;
      block_length = 520;
      quarter = 2;
      scale = 1;
      limit = 2 ^ 24;
      start = first;
      advance = packed_advance;
      guard_of = λ r. r % 65536;
      bits = bits_of;
      reach = 0;
      carries = true;
      waits = may_wait 512;
      advance-nil = packed-nil;
      advance-joined = packed-joined;
      start_small = lit< tt;
      advance_small = packed_small;
      limit-most = omega arith;
      none-waits = packed-alone 256;
      guard_small = λ bytes. omega arith;
      block_parts = refl;
      tag_quarters = refl;
      data_most = omega arith;
      data_pieces = refl;
      quarter_least = omega arith;
      quarter-most = omega arith;
      scaled = refl;
    }

-- method 3: 4,096 bytes of data, 16 of tag, CRC-32C
abbrev pub large : Format
large =
    record {
      data_length = 4096;
      tag_length = 16;
      block_length = 4112;
      quarter = 4;
      scale = 65536;
      limit = 2 ^ 32;
      start = wide.start;
      advance = λ at. wide.advance;
      guard_of = wide.guard_of;
      bits = bits_up_of;
      reach = 32;
      carries = false;
      waits = λ at. false;
      advance-nil = λ at. wide-joined.advance-nil;
      advance-joined = λ at. wide-joined.advance-joined;
      start_small = lit< tt;
      advance_small = λ at r bytes h. advance-lt r bytes h;
      limit-most = omega arith;
      none-waits = λ bytes h. advance-lt wide.start (take 4096 bytes) (lit< tt);
      guard_small = λ bytes. xor_lt 32 (wide.advance wide.start bytes) wide.ones (advance-lt wide.start bytes (lit< tt)) (lit< tt);
      block_parts = refl;
      tag_quarters = refl;
      data_most = omega arith;
      data_pieces = refl;
      quarter_least = omega arith;
      quarter-most = omega arith;
      scaled = refl;
    }

-- shut, so that no length is a number above this crate; any other number means method 1
unfoldable pub format_of : ℕ → Format
format_of method = cond (eqb method 2) checksummed (cond (eqb method 3) large t10)

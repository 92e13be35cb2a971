-- Each kind of line of a report, byte by byte, and the numbers and refusals of some headers, computed from the definitions: words, order of
-- bytes and numbers are pinned here, beside the code. Assumes nothing.
use mathlib.Core.Path.{◌≡◌, refl}
use mathlib.Core.List.{List, [], ◌∷◌}
use Prim.Native.Nat.{ℕ}
use Rattle.layout.specs.Arrays.{array_of, array_refusal}
use Rattle.layout.specs.declared.Array.{Array}
use Rattle.tag.specs.Numbers.{number_of}
use Rattle.lines.specs.Text.{decimal, scrub_word, members_word, stripes_word, clean_word, bad_word, letters, unchecked_word, torn_word, lost_word, total_word, clean_count, bad_count, unchecked_count, torn_count, refused_word}
use Rattle.lines.specs.Lines.{first_line, stripe_line, lost_line, total_line, refused_line}
use Rattle.lines.specs.Headers.{form_of, form_size, later, array_in, header_refusal}

-- ---- lines

abbrev five_by_thousand : Array
five_by_thousand = array_of 5 1000 9 1 1

-- "SCRUB v1 members 5 stripes 1000"
pub first-line-reads : first_line five_by_thousand ≡ 0x53 ∷ 0x43 ∷ 0x52 ∷ 0x55 ∷ 0x42 ∷ 0x20 ∷ 0x76 ∷ 0x31 ∷ 0x20 ∷ 0x6D ∷ 0x65 ∷ 0x6D ∷ 0x62 ∷ 0x65
    ∷ 0x72 ∷ 0x73 ∷ 0x20 ∷ 0x35 ∷ 0x20 ∷ 0x73 ∷ 0x74 ∷ 0x72 ∷ 0x69 ∷ 0x70 ∷ 0x65 ∷ 0x73 ∷ 0x20 ∷ 0x31 ∷ 0x30 ∷ 0x30 ∷ 0x30 ∷ 0x0A ∷ []
unfolding first_line scrub_word members_word stripes_word decimal
first-line-reads = refl

-- "12 CLEAN"
pub clean-line-reads : stripe_line 12 (0 ∷ 0 ∷ 0 ∷ 0 ∷ []) ≡ 0x31 ∷ 0x32 ∷ 0x20 ∷ 0x43 ∷ 0x4C ∷ 0x45 ∷ 0x41 ∷ 0x4E ∷ 0x0A ∷ []
unfolding stripe_line clean_word decimal
clean-line-reads = refl

-- "12 BAD 3 1 G--", "12 BAD 3 1 -AR": the member, then the count, then the fields at fault
pub bad-line-reads : (stripe_line 12 (1 ∷ 3 ∷ 1 ∷ 4 ∷ []) ≡ 0x31 ∷ 0x32 ∷ 0x20 ∷ 0x42 ∷ 0x41 ∷ 0x44 ∷ 0x20 ∷ 0x33 ∷ 0x20 ∷ 0x31 ∷ 0x20 ∷ 0x47 ∷ 0x2D ∷ 0x2D ∷ 0x0A ∷ [])
    × (stripe_line 12 (1 ∷ 3 ∷ 1 ∷ 3 ∷ []) ≡ 0x31 ∷ 0x32 ∷ 0x20 ∷ 0x42 ∷ 0x41 ∷ 0x44 ∷ 0x20 ∷ 0x33 ∷ 0x20 ∷ 0x31 ∷ 0x20 ∷ 0x2D ∷ 0x41 ∷ 0x52 ∷ 0x0A ∷ [])
unfolding stripe_line bad_word letters decimal
bad-line-reads = (refl, refl)

-- "12 UNCHECKED 3 1"
pub unchecked-line-reads : stripe_line 12 (3 ∷ 3 ∷ 1 ∷ 0 ∷ []) ≡ 0x31 ∷ 0x32 ∷ 0x20 ∷ 0x55 ∷ 0x4E ∷ 0x43 ∷ 0x48 ∷ 0x45 ∷ 0x43 ∷ 0x4B ∷ 0x45 ∷ 0x44 ∷ 0x20 ∷ 0x33 ∷ 0x20 ∷ 0x31 ∷ 0x0A ∷ []
unfolding stripe_line unchecked_word decimal
unchecked-line-reads = refl

-- "12 TORN 509", and "12 TORN 512", a place behind the data
pub torn-line-reads : (stripe_line 12 (2 ∷ 509 ∷ 0 ∷ 0 ∷ []) ≡ 0x31 ∷ 0x32 ∷ 0x20 ∷ 0x54 ∷ 0x4F ∷ 0x52 ∷ 0x4E ∷ 0x20 ∷ 0x35 ∷ 0x30 ∷ 0x39 ∷ 0x0A ∷ [])
    × (stripe_line 12 (2 ∷ 512 ∷ 0 ∷ 0 ∷ []) ≡ 0x31 ∷ 0x32 ∷ 0x20 ∷ 0x54 ∷ 0x4F ∷ 0x52 ∷ 0x4E ∷ 0x20 ∷ 0x35 ∷ 0x31 ∷ 0x32 ∷ 0x0A ∷ [])
unfolding stripe_line torn_word decimal
torn-line-reads = (refl, refl)

-- "12 LOST"
pub lost-line-reads : lost_line 12 ≡ 0x31 ∷ 0x32 ∷ 0x20 ∷ 0x4C ∷ 0x4F ∷ 0x53 ∷ 0x54 ∷ 0x0A ∷ []
unfolding lost_line lost_word decimal
lost-line-reads = refl

-- "TOTAL 1000 clean 991 bad 2 unchecked 3 torn 4"
pub total_line-reads : total_line five_by_thousand (record { clean = 991; bad = 2; unchecked = 3; torn = 4 }) ≡ 0x54 ∷ 0x4F ∷ 0x54 ∷ 0x41 ∷ 0x4C ∷ 0x20 ∷ 0x31 ∷ 0x30 ∷ 0x30 ∷ 0x30 ∷ 0x20 ∷ 0x63 ∷ 0x6C ∷ 0x65 ∷ 0x61 ∷ 0x6E ∷ 0x20 ∷ 0x39
    ∷ 0x39 ∷ 0x31 ∷ 0x20 ∷ 0x62 ∷ 0x61 ∷ 0x64 ∷ 0x20 ∷ 0x32 ∷ 0x20 ∷ 0x75 ∷ 0x6E ∷ 0x63 ∷ 0x68 ∷ 0x65 ∷ 0x63 ∷ 0x6B ∷ 0x65 ∷ 0x64
    ∷ 0x20 ∷ 0x33 ∷ 0x20 ∷ 0x74 ∷ 0x6F ∷ 0x72 ∷ 0x6E ∷ 0x20 ∷ 0x34 ∷ 0x0A ∷ []
unfolding total_line total_word clean_count bad_count unchecked_count torn_count decimal
total_line-reads = refl

-- "REFUSED 10"
pub refused_line-reads : refused_line 10 ≡ 0x52 ∷ 0x45 ∷ 0x46 ∷ 0x55 ∷ 0x53 ∷ 0x45 ∷ 0x44 ∷ 0x20 ∷ 0x31 ∷ 0x30 ∷ 0x0A ∷ []
unfolding refused_line refused_word decimal
refused_line-reads = refl

-- ---- headers

-- length 7, version 1, 3 members, volume 5, and 01020304h stripes: no two of the bytes that are read may change places
abbrev header : List ℕ
header = 0x00 ∷ 0x07 ∷ 0x01 ∷ 0x03 ∷ 0x05 ∷ 0x01 ∷ 0x02 ∷ 0x03 ∷ 0x04 ∷ []

pub header-reads : array_in header ≡ array_of 3 0x01020304 5 1 1
unfolding array_in later form_of number_of
header-reads = refl

pub header-accepted : header_refusal header ≡ 0
unfolding header_refusal form_of form_size array_refusal array_in later number_of
header-accepted = refl

-- a byte short
pub short_refused : header_refusal (0x00 ∷ 0x07 ∷ 0x01 ∷ 0x03 ∷ 0x05 ∷ 0x01 ∷ 0x02 ∷ 0x03 ∷ []) ≡ 10
unfolding header_refusal form_of form_size array_refusal array_in later number_of
short_refused = refl

-- length 8; length 0700h, the two bytes exchanged
pub length_eight_refused : header_refusal (0x00 ∷ 0x08 ∷ 0x01 ∷ 0x03 ∷ 0x05 ∷ 0x01 ∷ 0x02 ∷ 0x03 ∷ 0x04 ∷ []) ≡ 10
unfolding header_refusal form_of form_size array_refusal array_in later number_of
length_eight_refused = refl

pub length_exchanged_refused : header_refusal (0x07 ∷ 0x00 ∷ 0x01 ∷ 0x03 ∷ 0x05 ∷ 0x01 ∷ 0x02 ∷ 0x03 ∷ 0x04 ∷ []) ≡ 10
unfolding header_refusal form_of form_size array_refusal array_in later number_of
length_exchanged_refused = refl

-- version 5; and at its third byte
pub version_five_refused : header_refusal (0x00 ∷ 0x07 ∷ 0x05 ∷ 0x03 ∷ 0x05 ∷ 0x01 ∷ 0x02 ∷ 0x03 ∷ 0x04 ∷ []) ≡ 10
unfolding header_refusal form_of form_size array_refusal array_in later number_of
version_five_refused = refl

pub three-bytes_refused : header_refusal (0x00 ∷ 0x07 ∷ 0x05 ∷ []) ≡ 10
unfolding header_refusal form_of form_size array_refusal array_in later number_of
three-bytes_refused = refl

-- 2 members; no stripes
pub two_members_refused : header_refusal (0x00 ∷ 0x07 ∷ 0x01 ∷ 0x02 ∷ 0x05 ∷ 0x01 ∷ 0x02 ∷ 0x03 ∷ 0x04 ∷ []) ≡ 1
unfolding header_refusal form_of form_size array_refusal array_in later number_of
two_members_refused = refl

pub no_stripes_refused : header_refusal (0x00 ∷ 0x07 ∷ 0x01 ∷ 0x03 ∷ 0x05 ∷ 0x00 ∷ 0x00 ∷ 0x00 ∷ 0x00 ∷ []) ≡ 2
unfolding header_refusal form_of form_size array_refusal array_in later number_of
no_stripes_refused = refl

-- ---- headers of version 2

-- length 8, and method 2 behind the stripes
abbrev second_header : List ℕ
second_header = 0x00 ∷ 0x08 ∷ 0x02 ∷ 0x03 ∷ 0x05 ∷ 0x01 ∷ 0x02 ∷ 0x04 ∷ 0x06 ∷ 0x02 ∷ []

pub second-header-reads : array_in second_header ≡ array_of 3 0x01020406 5 2 1
unfolding array_in later form_of number_of
second-header-reads = refl

pub second-header-accepted : header_refusal second_header ≡ 0
unfolding header_refusal form_of form_size array_refusal array_in later number_of
second-header-accepted = refl

-- methods 1 and 3 can be said too; methods 0 and 4 are refused, behind all else
pub second-header_methods : header_refusal (0x00 ∷ 0x08 ∷ 0x02 ∷ 0x03 ∷ 0x05 ∷ 0x01 ∷ 0x02 ∷ 0x04 ∷ 0x06 ∷ 0x01 ∷ []) ≡ 0
unfolding header_refusal form_of form_size array_refusal array_in later number_of
second-header_methods = refl

pub method_three-accepted : header_refusal (0x00 ∷ 0x08 ∷ 0x02 ∷ 0x03 ∷ 0x05 ∷ 0x01 ∷ 0x02 ∷ 0x04 ∷ 0x06 ∷ 0x03 ∷ []) ≡ 0
unfolding header_refusal form_of form_size array_refusal array_in later number_of
method_three-accepted = refl

pub method_none_refused : header_refusal (0x00 ∷ 0x08 ∷ 0x02 ∷ 0x03 ∷ 0x05 ∷ 0x01 ∷ 0x02 ∷ 0x04 ∷ 0x06 ∷ 0x00 ∷ []) ≡ 12
unfolding header_refusal form_of form_size array_refusal array_in later number_of
method_none_refused = refl

pub method_four_refused : header_refusal (0x00 ∷ 0x08 ∷ 0x02 ∷ 0x03 ∷ 0x05 ∷ 0x01 ∷ 0x02 ∷ 0x04 ∷ 0x06 ∷ 0x04 ∷ []) ≡ 12
unfolding header_refusal form_of form_size array_refusal array_in later number_of
method_four_refused = refl

pub stripes_before_method : header_refusal (0x00 ∷ 0x08 ∷ 0x02 ∷ 0x03 ∷ 0x05 ∷ 0x00 ∷ 0x00 ∷ 0x00 ∷ 0x00 ∷ 0x04 ∷ []) ≡ 2
unfolding header_refusal form_of form_size array_refusal array_in later number_of
stripes_before_method = refl

-- a byte short; each version with the other's length, whatever bytes came
pub second-short_refused : header_refusal (0x00 ∷ 0x08 ∷ 0x02 ∷ 0x03 ∷ 0x05 ∷ 0x01 ∷ 0x02 ∷ 0x04 ∷ 0x06 ∷ []) ≡ 10
unfolding header_refusal form_of form_size array_refusal array_in later number_of
second-short_refused = refl

pub second-length_seven_refused : header_refusal (0x00 ∷ 0x07 ∷ 0x02 ∷ 0x03 ∷ 0x05 ∷ 0x01 ∷ 0x02 ∷ 0x04 ∷ 0x06 ∷ 0x02 ∷ []) ≡ 10
unfolding header_refusal form_of form_size array_refusal array_in later number_of
second-length_seven_refused = refl

pub first-length_eight_refused : header_refusal (0x00 ∷ 0x08 ∷ 0x01 ∷ 0x03 ∷ 0x05 ∷ 0x01 ∷ 0x02 ∷ 0x04 ∷ 0x06 ∷ 0x02 ∷ []) ≡ 10
unfolding header_refusal form_of form_size array_refusal array_in later number_of
first-length_eight_refused = refl

-- ---- headers of version 3

-- length 9, method 3 and rows of 64
abbrev third_header : List ℕ
third_header = 0x00 ∷ 0x09 ∷ 0x03 ∷ 0x03 ∷ 0x05 ∷ 0x01 ∷ 0x02 ∷ 0x04 ∷ 0x40 ∷ 0x03 ∷ 0x40 ∷ []

pub third-header-reads : array_in third_header ≡ array_of 3 0x01020440 5 3 64
unfolding array_in later form_of number_of
third-header-reads = refl

pub third-header-accepted : header_refusal third_header ≡ 0
unfolding header_refusal form_of form_size array_refusal array_in later number_of
third-header-accepted = refl

-- rows of three; rows of 128, which do not divide those stripes; a method that there is not goes first
pub rows_refused : (header_refusal (0x00 ∷ 0x09 ∷ 0x03 ∷ 0x03 ∷ 0x05 ∷ 0x00 ∷ 0x00 ∷ 0x00 ∷ 0x03 ∷ 0x01 ∷ 0x03 ∷ []) ≡ 13)
    × (header_refusal (0x00 ∷ 0x09 ∷ 0x03 ∷ 0x03 ∷ 0x05 ∷ 0x01 ∷ 0x02 ∷ 0x04 ∷ 0x40 ∷ 0x01 ∷ 0x80 ∷ []) ≡ 13)
    × (header_refusal (0x00 ∷ 0x09 ∷ 0x03 ∷ 0x03 ∷ 0x05 ∷ 0x00 ∷ 0x00 ∷ 0x00 ∷ 0x03 ∷ 0x04 ∷ 0x02 ∷ []) ≡ 12)
unfolding header_refusal form_of form_size array_refusal array_in later number_of
rows_refused = (refl, refl, refl)

-- a byte short; the second version's length
pub third-short_refused : (header_refusal (0x00 ∷ 0x09 ∷ 0x03 ∷ 0x03 ∷ 0x05 ∷ 0x01 ∷ 0x02 ∷ 0x04 ∷ 0x40 ∷ 0x03 ∷ []) ≡ 10)
    × (header_refusal (0x00 ∷ 0x08 ∷ 0x03 ∷ 0x03 ∷ 0x05 ∷ 0x01 ∷ 0x02 ∷ 0x04 ∷ 0x40 ∷ 0x03 ∷ 0x40 ∷ []) ≡ 10)
unfolding header_refusal form_of form_size array_refusal array_in later number_of
third-short_refused = (refl, refl)

-- the most that four bytes can say is an array now
pub four-bytes_full : header_refusal (0x00 ∷ 0x07 ∷ 0x01 ∷ 0x03 ∷ 0x05 ∷ 0xFF ∷ 0xFF ∷ 0xFF ∷ 0xFF ∷ []) ≡ 0
unfolding header_refusal form_of form_size array_refusal array_in later number_of
four-bytes_full = refl

-- ---- headers of version 4

-- length 13, 0000000902030440h stripes, method 3 and rows of 64
abbrev fourth_header : List ℕ
fourth_header = 0x00 ∷ 0x0D ∷ 0x04 ∷ 0x03 ∷ 0x05 ∷ 0x00 ∷ 0x00 ∷ 0x00 ∷ 0x09 ∷ 0x02 ∷ 0x03 ∷ 0x04 ∷ 0x40 ∷ 0x03 ∷ 0x40 ∷ []

pub fourth-header-reads : array_in fourth_header ≡ array_of 3 0x0902030440 5 3 64
unfolding array_in later form_of number_of
fourth-header-reads = refl

pub fourth-header-accepted : header_refusal fourth_header ≡ 0
unfolding header_refusal form_of form_size array_refusal array_in later number_of
fourth-header-accepted = refl

-- the largest array; one stripe more; the highest byte of eight counted in
pub most_stripes_lem : (header_refusal (0x00 ∷ 0x0D ∷ 0x04 ∷ 0x10 ∷ 0x05 ∷ 0x00 ∷ 0x00 ∷ 0x00 ∷ 0x10 ∷ 0x00 ∷ 0x00 ∷ 0x00 ∷ 0x00 ∷ 0x01 ∷ 0x80 ∷ []) ≡ 0)
    × (header_refusal (0x00 ∷ 0x0D ∷ 0x04 ∷ 0x10 ∷ 0x05 ∷ 0x00 ∷ 0x00 ∷ 0x00 ∷ 0x10 ∷ 0x00 ∷ 0x00 ∷ 0x00 ∷ 0x01 ∷ 0x01 ∷ 0x01 ∷ []) ≡ 2)
    × (header_refusal (0x00 ∷ 0x0D ∷ 0x04 ∷ 0x10 ∷ 0x05 ∷ 0x01 ∷ 0x00 ∷ 0x00 ∷ 0x00 ∷ 0x00 ∷ 0x00 ∷ 0x00 ∷ 0x01 ∷ 0x01 ∷ 0x01 ∷ []) ≡ 2)
unfolding header_refusal form_of form_size array_refusal array_in later number_of
most_stripes_lem = (refl, refl, refl)

-- a byte short; the third version's length
pub fourth-short_refused : (header_refusal (0x00 ∷ 0x0D ∷ 0x04 ∷ 0x03 ∷ 0x05 ∷ 0x00 ∷ 0x00 ∷ 0x00 ∷ 0x09 ∷ 0x02 ∷ 0x03 ∷ 0x04 ∷ 0x40 ∷ 0x03 ∷ []) ≡ 10)
    × (header_refusal (0x00 ∷ 0x09 ∷ 0x04 ∷ 0x03 ∷ 0x05 ∷ 0x00 ∷ 0x00 ∷ 0x00 ∷ 0x09 ∷ 0x02 ∷ 0x03 ∷ 0x04 ∷ 0x40 ∷ 0x03 ∷ 0x40 ∷ []) ≡ 10)
unfolding header_refusal form_of form_size array_refusal array_in later number_of
fourth-short_refused = (refl, refl)

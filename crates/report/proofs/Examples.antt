-- Images that are refused, at their header or at their end, by computation: their reports, and what the calls write of one that is cut in
-- three. Assumes nothing.
use mathlib.Core.Path.{◌≡◌, refl}
use mathlib.Core.List.{List, [], ◌∷◌, ◌++◌}
use Prim.Native.Nat.{ℕ}
use Rattle.format.specs.Methods.{format_of}
use Rattle.layout.specs.Arrays.{array_of, array_refusal}
use Rattle.layout.specs.declared.Array.{Array}
use Rattle.tag.specs.Numbers.{number_of}
use Rattle.lines.specs.Text.{decimal, refused_word}
use Rattle.lines.specs.declared.tally.Tally.{Tally}
use Rattle.lines.specs.Lines.{first_line, refused_line, line_room}
use Rattle.lines.specs.Headers.{form_of, form_size, later, array_in, header_refusal}
use Rattle.report.specs.Reports.{ending, stripe_lines, report_of}
use Rattle.report.specs.Feeding.{header_whole, header_held, header_took, stage_step, feed_step, close_line, fresh_report}
use Rattle.report.specs.Fills.{fill_steps, fill_step, fed_text}

-- "REFUSED ", a digit, and the end of the line
refused_with : ℕ → List ℕ
refused_with digit = 0x52 ∷ 0x45 ∷ 0x46 ∷ 0x55 ∷ 0x53 ∷ 0x45 ∷ 0x44 ∷ 0x20 ∷ digit ∷ 0x0A ∷ []

-- no byte at all
nothing-came : report_of [] ≡ 0x52 ∷ 0x45 ∷ 0x46 ∷ 0x55 ∷ 0x53 ∷ 0x45 ∷ 0x44 ∷ 0x20 ∷ 0x31 ∷ 0x30 ∷ 0x0A ∷ []
unfolding report_of header_refusal form_of form_size array_refusal array_in later number_of refused_line refused_word decimal
nothing-came = refl

-- another length, of both versions; another version
other_length : report_of (0 ∷ 8 ∷ 1 ∷ 3 ∷ 7 ∷ 0 ∷ 0 ∷ 0 ∷ 1 ∷ []) ≡ refused_line 10
unfolding report_of header_refusal form_of form_size array_refusal array_in later number_of
other_length = refl

second_other_length : report_of (0 ∷ 7 ∷ 2 ∷ 3 ∷ 7 ∷ 0 ∷ 0 ∷ 0 ∷ 1 ∷ 2 ∷ []) ≡ refused_line 10
unfolding report_of header_refusal form_of form_size array_refusal array_in later number_of
second_other_length = refl

other_version : report_of (0 ∷ 7 ∷ 3 ∷ 3 ∷ 7 ∷ 0 ∷ 0 ∷ 0 ∷ 1 ∷ []) ≡ refused_line 10
unfolding report_of header_refusal form_of form_size array_refusal array_in later number_of
other_version = refl

-- two members; no stripe
two_members : report_of (0 ∷ 7 ∷ 1 ∷ 2 ∷ 7 ∷ 0 ∷ 0 ∷ 0 ∷ 1 ∷ []) ≡ refused_with 0x31
unfolding report_of header_refusal form_of form_size array_refusal array_in later number_of refused_line refused_word decimal refused_with
two_members = refl

no_stripes : report_of (0 ∷ 7 ∷ 1 ∷ 3 ∷ 7 ∷ 0 ∷ 0 ∷ 0 ∷ 0 ∷ []) ≡ refused_with 0x32
unfolding report_of header_refusal form_of form_size array_refusal array_in later number_of refused_line refused_word decimal refused_with
no_stripes = refl

-- a method that there is not, "REFUSED 12"
no_such_method : report_of (0 ∷ 8 ∷ 2 ∷ 3 ∷ 7 ∷ 0 ∷ 0 ∷ 0 ∷ 1 ∷ 4 ∷ []) ≡ 0x52 ∷ 0x45 ∷ 0x46 ∷ 0x55 ∷ 0x53 ∷ 0x45 ∷ 0x44 ∷ 0x20 ∷ 0x31 ∷ 0x32 ∷ 0x0A ∷ []
unfolding report_of header_refusal form_of form_size array_refusal array_in later number_of refused_line refused_word decimal
no_such_method = refl

-- "REFUSED 11"
refused_eleven : List ℕ
refused_eleven = 0x52 ∷ 0x45 ∷ 0x46 ∷ 0x55 ∷ 0x53 ∷ 0x45 ∷ 0x44 ∷ 0x20 ∷ 0x31 ∷ 0x31 ∷ 0x0A ∷ []

-- three members and one stripe, and no byte of it: the first line, and refusal 11; so with a header of version 2
ends_early : report_of (0 ∷ 7 ∷ 1 ∷ 3 ∷ 7 ∷ 0 ∷ 0 ∷ 0 ∷ 1 ∷ []) ≡ first_line (array_of 3 1 7 1 1) ++ refused_eleven
unfolding format_of form_of form_size report_of stripe_lines header_refusal array_refusal array_in later number_of refused_line refused_word decimal refused_eleven
ends_early = refl

second-ends_early : report_of (0 ∷ 8 ∷ 2 ∷ 3 ∷ 7 ∷ 0 ∷ 0 ∷ 0 ∷ 1 ∷ 2 ∷ []) ≡ first_line (array_of 3 1 7 2 1) ++ refused_eleven
unfolding format_of form_of form_size report_of stripe_lines header_refusal array_refusal array_in later number_of refused_line refused_word decimal refused_eleven
second-ends_early = refl

-- a byte behind the last stripe
goes_on : (a : Array) (t : Tally) (byte : ℕ) (bytes : List ℕ) → ending a t (byte ∷ bytes) ≡ refused_eleven
unfolding ending refused_line refused_word decimal refused_eleven
goes_on a t byte bytes = refl

-- two members, in three pieces, one of them empty, and two bytes after the header
three-pieces : (w : List ℕ) → fed_text line_room fresh_report ((0 ∷ 7 ∷ []) ∷ [] ∷ (1 ∷ 2 ∷ 7 ∷ 0 ∷ 0 ∷ 0 ∷ 1 ∷ 9 ∷ 9 ∷ []) ∷ []) w ≡ refused_with 0x31
unfolding
    header_whole
    header_held
    header_took
    stage_step
    feed_step
    fill_steps
    fill_step
    close_line
    fresh_report
    header_refusal
    form_of
    form_size
    array_refusal
    array_in
    later
    number_of
    refused_line
    refused_word
    decimal
    refused_with
three-pieces w = refl

-- The example of docs/MACHINE.md, 11. Its sheet is good and says 4 steps; with an address taken twice that line is the bad one. The lines
-- printed of its end, and of the word that it changed, are those of the report. Assumes nothing.
use mathlib.Core.Path.{◌≡◌, refl}
use mathlib.Core.List.{List, [], ◌∷◌, ◌++◌}
use Prim.Native.Nat.{ℕ}
use Rattle.std.specs.Prelude.{Some, None}
use Rattle.machine.specs.declared.Ending.TheVariants.{Budget}
use Rattle.machine.specs.declared.Cause.TheVariants.{BelowBase, OverLimit, BeyondMemory}
use Rattle.machine.specs.State.{State, addr}
use Rattle.machine.specs.Run.{zeros}
use Rattle.text.specs.Names.{name_steps, name_changed}
use Rattle.text.specs.Digits.{is_decimal, is_letter, hex_digit, all_hex, hex_from, glyph_of, digits, places_of, width_of, shown}
use Rattle.text.specs.Sheet.{starts_at, ends_at, decimal_from, number_at, up_to, head_at, framed}
use Rattle.text.specs.Sheet.{word_line, bad_line, bad, after_words, after_steps, check_of, sheet_from, sheet_of}
use Rattle.text.specs.Report.{after_commas, commas, decimal_line, stop_line, cause_name, outside_line, control_lines, field_lines}
use Rattle.text.specs.Report.{program_lines, register_lines, state_lines, change, change_text}
use Rattle.std.proofs.Common.{Ok}

-- the sheet; the third word's address ends in the digit d
abbrev sheet : ℕ → List ℕ
sheet d =
    -- steps=4
    115 ∷ 116 ∷ 101 ∷ 112 ∷ 115 ∷ 61 ∷ 52 ∷ 10
    -- words=5
    ∷ 119 ∷ 111 ∷ 114 ∷ 100 ∷ 115 ∷ 61 ∷ 53 ∷ 10
    -- 0001=0000000400000000
    ∷ 48 ∷ 48 ∷ 48 ∷ 49 ∷ 61 ∷ 48 ∷ 48 ∷ 48 ∷ 48 ∷ 48 ∷ 48 ∷ 48 ∷ 52 ∷ 48 ∷ 48 ∷ 48 ∷ 48 ∷ 48 ∷ 48 ∷ 48 ∷ 48 ∷ 10
    -- 0002=0000000800000000
    ∷ 48 ∷ 48 ∷ 48 ∷ 50 ∷ 61 ∷ 48 ∷ 48 ∷ 48 ∷ 48 ∷ 48 ∷ 48 ∷ 48 ∷ 56 ∷ 48 ∷ 48 ∷ 48 ∷ 48 ∷ 48 ∷ 48 ∷ 48 ∷ 48 ∷ 10
    -- 0004=0000000800000000
    ∷ 48 ∷ 48 ∷ 48 ∷ d ∷ 61 ∷ 48 ∷ 48 ∷ 48 ∷ 48 ∷ 48 ∷ 48 ∷ 48 ∷ 56 ∷ 48 ∷ 48 ∷ 48 ∷ 48 ∷ 48 ∷ 48 ∷ 48 ∷ 48 ∷ 10
    -- 0005=0000000C00000000
    ∷ 48 ∷ 48 ∷ 48 ∷ 53 ∷ 61 ∷ 48 ∷ 48 ∷ 48 ∷ 48 ∷ 48 ∷ 48 ∷ 48 ∷ 67 ∷ 48 ∷ 48 ∷ 48 ∷ 48 ∷ 48 ∷ 48 ∷ 48 ∷ 48 ∷ 10
    -- 0400=2445248730CA90C0
    ∷ 48 ∷ 52 ∷ 48 ∷ 48 ∷ 61 ∷ 50 ∷ 52 ∷ 52 ∷ 53 ∷ 50 ∷ 52 ∷ 56 ∷ 55 ∷ 51 ∷ 48 ∷ 67 ∷ 65 ∷ 57 ∷ 48 ∷ 67 ∷ 48 ∷ 10
    ∷ []

says-4 : sheet_of (sheet 52) ≡ Ok 4
unfolding is_decimal is_letter hex_digit all_hex hex_from starts_at ends_at decimal_from number_at up_to head_at framed word_line bad_line after_words
    after_steps check_of sheet_from sheet_of
says-4 = refl

bad-line-5 : sheet_of (sheet 50) ≡ bad 5
unfolding is_decimal is_letter hex_digit all_hex hex_from starts_at ends_at decimal_from number_at up_to head_at framed word_line bad_line after_words
    after_steps check_of sheet_from sheet_of
bad-line-5 = refl

abbrev end : State
end = record {
  p = addr 5;
  registers = record {
    a = 0 ∷ 5 ∷ 7 ∷ 12 ∷ 0 ∷ 0 ∷ 0 ∷ 0 ∷ [];
    s = zeros 8;
    b = zeros 64;
    t = zeros 64;
    v = zeros 512;
    xa = 0;
    vl = 64;
    vm = 0;
    ior = 0;
    bdm = 0;
  };
  frame = record { iba = 32; ila = 64; dba = 64; dla = 96; mm = 0; ifp = 0; fps = 0; ps = 0; cln = 0; processor = 0 };
}

abbrev printed : List ℕ
printed =
    -- stop=budget
    115 ∷ 116 ∷ 111 ∷ 112 ∷ 61 ∷ 98 ∷ 117 ∷ 100 ∷ 103 ∷ 101 ∷ 116 ∷ 10
    -- outside=none
    ∷ 111 ∷ 117 ∷ 116 ∷ 115 ∷ 105 ∷ 100 ∷ 101 ∷ 61 ∷ 110 ∷ 111 ∷ 110 ∷ 101 ∷ 10
    -- steps=4
    ∷ 115 ∷ 116 ∷ 101 ∷ 112 ∷ 115 ∷ 61 ∷ 52 ∷ 10
    -- p=000005
    ∷ 112 ∷ 61 ∷ 48 ∷ 48 ∷ 48 ∷ 48 ∷ 48 ∷ 53 ∷ 10
    -- xa=00
    ∷ 120 ∷ 97 ∷ 61 ∷ 48 ∷ 48 ∷ 10
    -- vl=64
    ∷ 118 ∷ 108 ∷ 61 ∷ 54 ∷ 52 ∷ 10
    -- modes=00
    ∷ 109 ∷ 111 ∷ 100 ∷ 101 ∷ 115 ∷ 61 ∷ 48 ∷ 48 ∷ 10
    -- iba=00020
    ∷ 105 ∷ 98 ∷ 97 ∷ 61 ∷ 48 ∷ 48 ∷ 48 ∷ 50 ∷ 48 ∷ 10
    -- ila=00040
    ∷ 105 ∷ 108 ∷ 97 ∷ 61 ∷ 48 ∷ 48 ∷ 48 ∷ 52 ∷ 48 ∷ 10
    -- dba=00040
    ∷ 100 ∷ 98 ∷ 97 ∷ 61 ∷ 48 ∷ 48 ∷ 48 ∷ 52 ∷ 48 ∷ 10
    -- dla=00060
    ∷ 100 ∷ 108 ∷ 97 ∷ 61 ∷ 48 ∷ 48 ∷ 48 ∷ 54 ∷ 48 ∷ 10
    -- ps=0
    ∷ 112 ∷ 115 ∷ 61 ∷ 48 ∷ 10
    -- cln=0
    ∷ 99 ∷ 108 ∷ 110 ∷ 61 ∷ 48 ∷ 10
    -- a=000000,000005,000007,00000C,000000,000000,000000,000000
    ∷ 97 ∷ 61 ∷ 48 ∷ 48 ∷ 48 ∷ 48 ∷ 48 ∷ 48 ∷ 44 ∷ 48 ∷ 48 ∷ 48 ∷ 48 ∷ 48 ∷ 53 ∷ 44 ∷ 48 ∷ 48 ∷ 48 ∷ 48 ∷ 48 ∷ 55 ∷ 44 ∷ 48 ∷ 48 ∷ 48 ∷ 48
    ∷ 48 ∷ 67 ∷ 44 ∷ 48 ∷ 48 ∷ 48 ∷ 48 ∷ 48 ∷ 48 ∷ 44 ∷ 48 ∷ 48 ∷ 48 ∷ 48 ∷ 48 ∷ 48 ∷ 44 ∷ 48 ∷ 48 ∷ 48 ∷ 48 ∷ 48 ∷ 48 ∷ 44 ∷ 48 ∷ 48 ∷ 48 ∷ 48 ∷ 48 ∷ 48 ∷ 10
    -- s=0,0,0,0,0,0,0,0
    ∷ 115 ∷ 61 ∷ 48 ∷ 44 ∷ 48 ∷ 44 ∷ 48 ∷ 44 ∷ 48 ∷ 44 ∷ 48 ∷ 44 ∷ 48 ∷ 44 ∷ 48 ∷ 44 ∷ 48 ∷ 10
    ∷ []

reported : stop_line (Ok Budget) ++ outside_line None ++ decimal_line name_steps 4 ++ state_lines end ≡ printed
unfolding glyph_of digits places_of width_of shown after_commas commas stop_line outside_line control_lines field_lines program_lines register_lines state_lines zeros
reported = refl

-- outside=below,0
outside_below : outside_line (Some (record { cause = BelowBase; element = 0 }))
    ≡ 111 ∷ 117 ∷ 116 ∷ 115 ∷ 105 ∷ 100 ∷ 101 ∷ 61 ∷ 98 ∷ 101 ∷ 108 ∷ 111 ∷ 119 ∷ 44 ∷ 48 ∷ 10 ∷ []
unfolding glyph_of digits places_of width_of shown cause_name outside_line
outside_below = refl

-- outside=limit,63
outside-limit : outside_line (Some (record { cause = OverLimit; element = 63 }))
    ≡ 111 ∷ 117 ∷ 116 ∷ 115 ∷ 105 ∷ 100 ∷ 101 ∷ 61 ∷ 108 ∷ 105 ∷ 109 ∷ 105 ∷ 116 ∷ 44 ∷ 54 ∷ 51 ∷ 10 ∷ []
unfolding glyph_of digits places_of width_of shown cause_name outside_line
outside-limit = refl

-- outside=memory,10
outside-memory : outside_line (Some (record { cause = BeyondMemory; element = 10 }))
    ≡ 111 ∷ 117 ∷ 116 ∷ 115 ∷ 105 ∷ 100 ∷ 101 ∷ 61 ∷ 109 ∷ 101 ∷ 109 ∷ 111 ∷ 114 ∷ 121 ∷ 44 ∷ 49 ∷ 48 ∷ 10 ∷ []
unfolding glyph_of digits places_of width_of shown cause_name outside_line
outside-memory = refl

abbrev changed_word : List ℕ
changed_word =
    -- changed=1
    99 ∷ 104 ∷ 97 ∷ 110 ∷ 103 ∷ 101 ∷ 100 ∷ 61 ∷ 49 ∷ 10
    -- 0800=000000000000000C
    ∷ 48 ∷ 56 ∷ 48 ∷ 48 ∷ 61 ∷ 48 ∷ 48 ∷ 48 ∷ 48 ∷ 48 ∷ 48 ∷ 48 ∷ 48 ∷ 48 ∷ 48 ∷ 48 ∷ 48 ∷ 48 ∷ 48 ∷ 48 ∷ 67 ∷ 10
    ∷ []

reported-change : decimal_line name_changed (change 0 12) ++ change_text 2048 0 12 ≡ changed_word
unfolding glyph_of digits places_of width_of shown change_text
reported-change = refl

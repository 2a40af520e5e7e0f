-- The example of each row of the table, and how many first parcels are spelled. Assumes nothing.
use Prim.Native.Nat.{ℕ, zero, suc, ◌+◌}
use Prim.Native.String.{String}
use mathlib.Core.Path.{◌≡◌, refl}
use mathlib.Core.Bool.{Bool, true, false, not, ◌&&◌}
use mathlib.Core.List.{List, [], ◌∷◌, ◌++◌}
use Rattle.machine.specs.Word.{bit}
use Rattle.machine.specs.Codes.{Code, holds_none, holds_one, holds_two, code_of, code001, code002}
use Rattle.text.specs.Digits.{digits, shown, places_of, width_of, glyph_of}
use Rattle.spelling.specs.Words.{signs, operand_of, operand_text, text_of}
use Rattle.spelling.specs.Spelling.{passing, spelling, words_of, words_of_code, either_mode}
use Rattle.spelling.specs.Listing.{line_of}
use Rattle.spelling.proofs.Table.{same}

-- the line that two parcels are to have
pub data Example : Type 0 where
  line : ℕ → ℕ → String → Example

abbrev pub examples : List Example
examples =
    line 0o000000 0 "ERR"
    ∷ line 0o001000 0 "PASS"
    ∷ line 0o001012 0 "CA,A1 A2"
    ∷ line 0o001100 0 "CL,A0 A0"
    ∷ line 0o001230 0 "CI,A3"
    ∷ line 0o001231 0 "MC,A3"
    ∷ line 0o001330 0 "XA A3"
    ∷ line 0o001401 0 "IP 1"
    ∷ line 0o001402 0 "IP 0"
    ∷ line 0o001405 0 "CCI"
    ∷ line 0o001406 0 "ECI"
    ∷ line 0o001407 0 "DCI"
    ∷ line 0o001423 0 "CLN 2"
    ∷ line 0o001430 0 "RT S3"
    ∷ line 0o001434 0 "PCI S3"
    ∷ line 0o002000 0 "VL A0"
    ∷ line 0o002300 0 "ERI"
    ∷ line 0o002400 0 "DRI"
    ∷ line 0o002500 0 "DBM"
    ∷ line 0o002600 0 "EBM"
    ∷ line 0o002700 0 "CMR"
    ∷ line 0o003000 0 "VM S0"
    ∷ line 0o004000 0 "EX"
    ∷ line 0o005007 0 "J B07"
    ∷ line 0o006012 0o000345 "J 2400345"
    ∷ line 0o007300 0o000000 "R 60000000"
    ∷ line 0o010000 0o000010 "JAZ 10"
    ∷ line 0o011000 0o000010 "JAN 10"
    ∷ line 0o012000 0o000010 "JAP 10"
    ∷ line 0o013000 0o000010 "JAM 10"
    ∷ line 0o013400 0o000017 "013 A3 17"
    ∷ line 0o014000 0o000010 "JSZ 10"
    ∷ line 0o015000 0o000010 "JSN 10"
    ∷ line 0o016000 0o000010 "JSP 10"
    ∷ line 0o017377 0o177777 "JSM 77777777"
    ∷ line 0o020100 0o000005 "020 A1 5"
    ∷ line 0o021177 0o177777 "021 A1 17777777"
    ∷ line 0o022177 0 "022 A1 77"
    ∷ line 0o023101 0 "A1 VL"
    ∷ line 0o023120 0 "A1 S2"
    ∷ line 0o024107 0 "A1 B07"
    ∷ line 0o025107 0 "B07 A1"
    ∷ line 0o026120 0 "A1 PS2"
    ∷ line 0o026121 0 "A1 QS2"
    ∷ line 0o027120 0 "A1 ZS2"
    ∷ line 0o030100 0 "A1 A0+A0"
    ∷ line 0o031123 0 "A1 A2-A3"
    ∷ line 0o032123 0 "A1 A2*A3"
    ∷ line 0o034276 0 "B76,A2 ,A0"
    ∷ line 0o035276 0 ",A0 B76,A2"
    ∷ line 0o036276 0 "T76,A2 ,A0"
    ∷ line 0o037276 0 ",A0 T76,A2"
    ∷ line 0o040100 0o000000 "040 S1 0"
    ∷ line 0o041100 0o000001 "041 S1 1"
    ∷ line 0o042100 0 "S1 <100"
    ∷ line 0o043100 0 "S1 >0"
    ∷ line 0o044123 0 "S1 S2&S3"
    ∷ line 0o045123 0 "S1 #S3&S2"
    ∷ line 0o046123 0 "S1 S2\\S3"
    ∷ line 0o047123 0 "S1 #S2\\S3"
    ∷ line 0o050123 0 "S1 S2!S1&S3"
    ∷ line 0o051123 0 "S1 S2!S3"
    ∷ line 0o052107 0 "052 S0 S1<7"
    ∷ line 0o053100 0 "053 S0 S1>0"
    ∷ line 0o054107 0 "054 S1 S1<7"
    ∷ line 0o055177 0 "055 S1 S1>77"
    ∷ line 0o056123 0 "S1 S1,S2<A3"
    ∷ line 0o057123 0 "S1 S2,S1>A3"
    ∷ line 0o060123 0 "S1 S2+S3"
    ∷ line 0o061123 0 "S1 S2-S3"
    ∷ line 0o071102 0 "S1 A2"
    ∷ line 0o071112 0 "S1 +A2"
    ∷ line 0o073100 0 "S1 VM"
    ∷ line 0o073101 0 "S1 SR0"
    ∷ line 0o074107 0 "S1 T07"
    ∷ line 0o075107 0 "T07 S1"
    ∷ line 0o076123 0 "S1 V2,A3"
    ∷ line 0o077103 0 "V1,A3 S0"
    ∷ line 0o102100 0o000005 "A1 5,A2"
    ∷ line 0o110100 0o000000 "0,A0 A1"
    ∷ line 0o122177 0o177777 "S1 17777777,A2"
    ∷ line 0o132100 0o000005 "5,A2 S1"
    ∷ line 0o140123 0 "V1 S2&V3"
    ∷ line 0o141123 0 "V1 V2&V3"
    ∷ line 0o142103 0 "V1 S0!V3"
    ∷ line 0o143123 0 "V1 V2!V3"
    ∷ line 0o144123 0 "V1 S2\\V3"
    ∷ line 0o145111 0 "V1 V1\\V1"
    ∷ line 0o146123 0 "V1 S2!V3&VM"
    ∷ line 0o147123 0 "V1 V2!V3&VM"
    ∷ line 0o150123 0 "V1 V2<A3"
    ∷ line 0o151123 0 "V1 V2>A3"
    ∷ line 0o152123 0 "V1 V2,V2<A3"
    ∷ line 0o153120 0 "V1 V2,V2>A0"
    ∷ line 0o154123 0 "V1 S2+V3"
    ∷ line 0o155123 0 "V1 V2+V3"
    ∷ line 0o156103 0 "V1 S0-V3"
    ∷ line 0o157123 0 "V1 V2-V3"
    ∷ line 0o174121 0 "V1 PV2"
    ∷ line 0o174122 0 "V1 QV2"
    ∷ line 0o175020 0 "VM V2,Z"
    ∷ line 0o175021 0 "VM V2,N"
    ∷ line 0o175022 0 "VM V2,P"
    ∷ line 0o175023 0 "VM V2,M"
    ∷ line 0o176100 0 "V1 ,A0,A0"
    ∷ line 0o177023 0 ",A0,A3 V2"
    ∷ []

abbrev pub all_right : List Example → Bool
all_right [] = true
all_right (line x m text ∷ more) = same (line_of x m) (signs text ++ (10 ∷ [])) && all_right more

pub examples-right : all_right examples ≡ true
unfolding same line_of words_of code_of code001 code002 spelling passing text_of operand_of operand_text digits shown places_of width_of glyph_of
examples-right = refl

-- how many of 0, 1, .., n - 1 are so
unfoldable pub how_many : (ℕ → Bool) → ℕ → ℕ
how_many f zero = 0
how_many f (suc n) = how_many f n + bit (f n)

abbrev pub is_none : List ℕ → Bool
is_none [] = true
is_none (w ∷ ws) = false

abbrev pub held : Code → Bool
held holds_none = false
held (holds_one n) = true
held (holds_two n) = true

-- 47,552 have words, and 151 that are held, in either mode, have none
pub spelled_count : how_many (λ x. not (is_none (words_of x))) 65536 ≡ 47552
unfolding how_many words_of code_of code001 code002 spelling passing
spelled_count = refl

abbrev mute : Code → ℕ → Bool
mute c x = held c && is_none (words_of_code c x)

pub unspelled-count : how_many (λ x. mute (either_mode x) x) 65536 ≡ 151
unfolding how_many code_of code001 code002 spelling passing
unspelled-count = refl

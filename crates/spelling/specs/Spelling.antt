-- How each instruction is spelled in CAL: one table, in the manual's order. At each row stand its code, then the parcels and the
-- line of an example. Assumes nothing.
use Rattle.std.specs.Prelude.{ℕ, List, [], Bool, true, false, ◌&&◌, eqb, ltb}
use Rattle.machine.specs.Word.{pick}
use Rattle.machine.specs.Parcel.{h_of, i_of, j_of, k_of, jk_of}
use Rattle.machine.specs.Codes.{Code, holds_none, holds_one, holds_two, code_of}
use Rattle.machine.specs.Act.{Instr, error_exit, pass, set_xa, set_vl, set_ior, clear_ior, clear_bdm, set_bdm, vm_from_s, normal_exit, jump_b}
use Rattle.machine.specs.Act.{jump, return_jump, jump_az, jump_an, jump_ap, jump_am, jump_sz, jump_sn, jump_sp, jump_sm, constant_ah, constant_a}
use Rattle.machine.specs.Act.{complement_a, short_a, a_from_s, a_from_vl, a_from_b, b_from_a, a_ones, a_parity, a_zeros, sum_a, difference_a, product_a}
use Rattle.machine.specs.Act.{read_b, store_b, read_t, store_t, constant_s, complement_s, ones_right_s, ones_left_s, and_s, and_not_s, xor_s}
use Rattle.machine.specs.Act.{eqv_s, merge_s, or_s, left_s0, right_s0, left_s, right_s, left_pair_s, right_pair_s, sum_s, difference_s, s_from_a}
use Rattle.machine.specs.Act.{s_from_signed_a, s_from_vm, s_from_status, s_from_t, t_from_s, s_from_v, v_from_s, load_a, store_a, load_s, store_s, and_sv}
use Rattle.machine.specs.Act.{and_vv, or_sv, or_vv, xor_sv, xor_vv, merge_sv, merge_vv, left_v, right_v, left_pair_v, right_pair_v, sum_sv}
use Rattle.machine.specs.Act.{sum_vv, difference_sv, difference_vv, ones_v, parity_v, mark_z, mark_n, mark_p, mark_m, load_v, store_v}
use Rattle.spelling.specs.Words.{text, ◌⟨◌⟩◌, end, a_h, a_i, a_j, a_k, s_i, s_j, s_k, v_i, v_j, v_k, b_jk, t_jk, h, j, jk, jkm, ijkm, 64-jk, jkm_a_h}

-- what does nothing where it is held: 001000, 002700, and in user mode 0010jk to 0015jk, by their digits. No spelling: []
unfoldable pub passing : ℕ → List ℕ
passing x =
    pick (eqb (h_of x) 2)
    -- 002700                                                                002700         CMR
    (text "CMR" end)
    (pick (eqb (i_of x) 0)
    (pick (eqb (jk_of x) 0)
    -- 001000                                                                001000         PASS
    (text "PASS" end)
    -- 0010jk                                                                001012         CA,A1 A2
    (text "CA," (a_j ⟨ " " ⟩ a_k)))
    -- 0011jk                                                                001100         CL,A0 A0
    (pick (eqb (i_of x) 1) (text "CL," (a_j ⟨ " " ⟩ a_k))
    (pick (eqb (i_of x) 2)
    -- 0012j0                                                                001230         CI,A3
    (pick (eqb (k_of x) 0) (text "CI," a_j)
    -- 0012j1                                                                001231         MC,A3
    (pick (eqb (k_of x) 1) (text "MC," a_j)
    []))
    (pick (eqb (i_of x) 4)
    -- 0014j0                                                                001430         RT S3
    (pick (eqb (k_of x) 0) (text "RT " s_j)
    -- 001401                                                                001401         IP 1
    (pick (eqb (jk_of x) 1) (text "IP 1" end)
    -- 001402                                                                001402         IP 0
    (pick (eqb (jk_of x) 2) (text "IP 0" end)
    -- 0014j3, j up to 3                                                     001423         CLN 2
    (pick (ltb (j_of x) 4 && eqb (k_of x) 3) (text "CLN " j)
    -- 0014j4                                                                001434         PCI S3
    (pick (eqb (k_of x) 4) (text "PCI " s_j)
    -- 001405                                                                001405         CCI
    (pick (eqb (jk_of x) 5) (text "CCI" end)
    -- 001406                                                                001406         ECI
    (pick (eqb (jk_of x) 6) (text "ECI" end)
    -- 001407                                                                001407         DCI
    (pick (eqb (jk_of x) 7) (text "DCI" end)
    []))))))))
    []))))

-- the words of an instruction whose first parcel is x
unfoldable pub spelling : Instr → ℕ → List ℕ
spelling error_exit x = text "ERR" end  -- 000000    000000         ERR
spelling pass x = passing x
spelling set_xa x = text "XA " a_j  -- 0013j0    001330         XA A3
spelling set_vl x = text "VL " a_k  -- 00200k    002000         VL A0
spelling set_ior x = text "ERI" end  -- 002300    002300         ERI
spelling clear_ior x = text "DRI" end  -- 002400    002400         DRI
spelling clear_bdm x = text "DBM" end  -- 002500    002500         DBM
spelling set_bdm x = text "EBM" end  -- 002600    002600         EBM
spelling vm_from_s x = text "VM " s_j  -- 0030j0    003000         VM S0
spelling normal_exit x = text "EX" end  -- 004000    004000         EX
spelling jump_b x = text "J " b_jk  -- 0050jk    005007         J B07
spelling jump x = text "J " ijkm  -- 006ijkm   006012 000345  J 2400345
spelling return_jump x = text "R " ijkm  -- 007ijkm   007300 000000  R 60000000
spelling jump_az x = text "JAZ " ijkm  -- 010ijkm   010000 000010  JAZ 10
spelling jump_an x = text "JAN " ijkm  -- 011ijkm   011000 000010  JAN 10
spelling jump_ap x = text "JAP " ijkm  -- 012ijkm   012000 000010  JAP 10
spelling jump_am x = text "JAM " ijkm  -- 013ijkm   013000 000010  JAM 10
spelling jump_sz x = text "JSZ " ijkm  -- 014ijkm   014000 000010  JSZ 10
spelling jump_sn x = text "JSN " ijkm  -- 015ijkm   015000 000010  JSN 10
spelling jump_sp x = text "JSP " ijkm  -- 016ijkm   016000 000010  JSP 10
spelling jump_sm x = text "JSM " ijkm  -- 017ijkm   017377 177777  JSM 77777777
spelling constant_ah x = text "01" (h ⟨ " " ⟩ a_h ⟨ " " ⟩ ijkm)  -- 01hijkm   013400 000017  013 A3 17
spelling constant_a x = text "020 " (a_i ⟨ " " ⟩ jkm)  -- 020ijkm   020100 000005  020 A1 5
spelling complement_a x = text "021 " (a_i ⟨ " " ⟩ jkm)  -- 021ijkm   021177 177777  021 A1 17777777
spelling short_a x = text "022 " (a_i ⟨ " " ⟩ jk)  -- 022ijk    022177         022 A1 77
spelling a_from_s x = a_i ⟨ " " ⟩ s_j  -- 023ij0    023120         A1 S2
spelling a_from_vl x = a_i ⟨ " VL" ⟩ end  -- 023i01    023101         A1 VL
spelling a_from_b x = a_i ⟨ " " ⟩ b_jk  -- 024ijk    024107         A1 B07
spelling b_from_a x = b_jk ⟨ " " ⟩ a_i  -- 025ijk    025107         B07 A1
spelling a_ones x = a_i ⟨ " P" ⟩ s_j  -- 026ij0    026120         A1 PS2
spelling a_parity x = a_i ⟨ " Q" ⟩ s_j  -- 026ij1    026121         A1 QS2
spelling a_zeros x = a_i ⟨ " Z" ⟩ s_j  -- 027ij0    027120         A1 ZS2
spelling sum_a x = a_i ⟨ " " ⟩ a_j ⟨ "+" ⟩ a_k  -- 030ijk    030100         A1 A0+A0
spelling difference_a x = a_i ⟨ " " ⟩ a_j ⟨ "-" ⟩ a_k  -- 031ijk    031123         A1 A2-A3
spelling product_a x = a_i ⟨ " " ⟩ a_j ⟨ "*" ⟩ a_k  -- 032ijk    032123         A1 A2*A3
spelling read_b x = b_jk ⟨ "," ⟩ a_i ⟨ " ,A0" ⟩ end  -- 034ijk    034276         B76,A2 ,A0
spelling store_b x = text ",A0 " (b_jk ⟨ "," ⟩ a_i)  -- 035ijk    035276         ,A0 B76,A2
spelling read_t x = t_jk ⟨ "," ⟩ a_i ⟨ " ,A0" ⟩ end  -- 036ijk    036276         T76,A2 ,A0
spelling store_t x = text ",A0 " (t_jk ⟨ "," ⟩ a_i)  -- 037ijk    037276         ,A0 T76,A2
spelling constant_s x = text "040 " (s_i ⟨ " " ⟩ jkm)  -- 040ijkm   040100 000000  040 S1 0
spelling complement_s x = text "041 " (s_i ⟨ " " ⟩ jkm)  -- 041ijkm   041100 000001  041 S1 1
spelling ones_right_s x = s_i ⟨ " <" ⟩ 64-jk  -- 042ijk    042100         S1 <100
spelling ones_left_s x = s_i ⟨ " >" ⟩ jk  -- 043ijk    043100         S1 >0
spelling and_s x = s_i ⟨ " " ⟩ s_j ⟨ "&" ⟩ s_k  -- 044ijk    044123         S1 S2&S3
spelling and_not_s x = s_i ⟨ " #" ⟩ s_k ⟨ "&" ⟩ s_j  -- 045ijk    045123         S1 #S3&S2
spelling xor_s x = s_i ⟨ " " ⟩ s_j ⟨ "\\" ⟩ s_k  -- 046ijk    046123         S1 S2\S3
spelling eqv_s x = s_i ⟨ " #" ⟩ s_j ⟨ "\\" ⟩ s_k  -- 047ijk    047123         S1 #S2\S3
spelling merge_s x = s_i ⟨ " " ⟩ s_j ⟨ "!" ⟩ s_i ⟨ "&" ⟩ s_k  -- 050ijk    050123         S1 S2!S1&S3
spelling or_s x = s_i ⟨ " " ⟩ s_j ⟨ "!" ⟩ s_k  -- 051ijk    051123         S1 S2!S3
spelling left_s0 x = text "052 S0 " (s_i ⟨ "<" ⟩ jk)  -- 052ijk    052107         052 S0 S1<7
spelling right_s0 x = text "053 S0 " (s_i ⟨ ">" ⟩ jk)  -- 053ijk    053100         053 S0 S1>0
spelling left_s x = text "054 " (s_i ⟨ " " ⟩ s_i ⟨ "<" ⟩ jk)  -- 054ijk    054107         054 S1 S1<7
spelling right_s x = text "055 " (s_i ⟨ " " ⟩ s_i ⟨ ">" ⟩ jk)  -- 055ijk    055177         055 S1 S1>77
spelling left_pair_s x = s_i ⟨ " " ⟩ s_i ⟨ "," ⟩ s_j ⟨ "<" ⟩ a_k  -- 056ijk    056123         S1 S1,S2<A3
spelling right_pair_s x = s_i ⟨ " " ⟩ s_j ⟨ "," ⟩ s_i ⟨ ">" ⟩ a_k  -- 057ijk    057123         S1 S2,S1>A3
spelling sum_s x = s_i ⟨ " " ⟩ s_j ⟨ "+" ⟩ s_k  -- 060ijk    060123         S1 S2+S3
spelling difference_s x = s_i ⟨ " " ⟩ s_j ⟨ "-" ⟩ s_k  -- 061ijk    061123         S1 S2-S3
spelling s_from_a x = s_i ⟨ " " ⟩ a_k  -- 071i0k    071102         S1 A2
spelling s_from_signed_a x = s_i ⟨ " +" ⟩ a_k  -- 071i1k    071112         S1 +A2
spelling s_from_vm x = s_i ⟨ " VM" ⟩ end  -- 073i00    073100         S1 VM
spelling s_from_status x = s_i ⟨ " SR0" ⟩ end  -- 073i01    073101         S1 SR0
spelling s_from_t x = s_i ⟨ " " ⟩ t_jk  -- 074ijk    074107         S1 T07
spelling t_from_s x = t_jk ⟨ " " ⟩ s_i  -- 075ijk    075107         T07 S1
spelling s_from_v x = s_i ⟨ " " ⟩ v_j ⟨ "," ⟩ a_k  -- 076ijk    076123         S1 V2,A3
spelling v_from_s x = v_i ⟨ "," ⟩ a_k ⟨ " " ⟩ s_j  -- 077ijk    077103         V1,A3 S0
spelling load_a x = a_i ⟨ " " ⟩ jkm_a_h  -- 10hijkm   102100 000005  A1 5,A2
spelling store_a x = jkm_a_h ⟨ " " ⟩ a_i  -- 11hijkm   110100 000000  0,A0 A1
spelling load_s x = s_i ⟨ " " ⟩ jkm_a_h  -- 12hijkm   122177 177777  S1 17777777,A2
spelling store_s x = jkm_a_h ⟨ " " ⟩ s_i  -- 13hijkm   132100 000005  5,A2 S1
spelling and_sv x = v_i ⟨ " " ⟩ s_j ⟨ "&" ⟩ v_k  -- 140ijk    140123         V1 S2&V3
spelling and_vv x = v_i ⟨ " " ⟩ v_j ⟨ "&" ⟩ v_k  -- 141ijk    141123         V1 V2&V3
spelling or_sv x = v_i ⟨ " " ⟩ s_j ⟨ "!" ⟩ v_k  -- 142ijk    142103         V1 S0!V3
spelling or_vv x = v_i ⟨ " " ⟩ v_j ⟨ "!" ⟩ v_k  -- 143ijk    143123         V1 V2!V3
spelling xor_sv x = v_i ⟨ " " ⟩ s_j ⟨ "\\" ⟩ v_k  -- 144ijk    144123         V1 S2\V3
spelling xor_vv x = v_i ⟨ " " ⟩ v_j ⟨ "\\" ⟩ v_k  -- 145ijk    145111         V1 V1\V1
spelling merge_sv x = v_i ⟨ " " ⟩ s_j ⟨ "!" ⟩ v_k ⟨ "&VM" ⟩ end  -- 146ijk    146123         V1 S2!V3&VM
spelling merge_vv x = v_i ⟨ " " ⟩ v_j ⟨ "!" ⟩ v_k ⟨ "&VM" ⟩ end  -- 147ijk    147123         V1 V2!V3&VM
spelling left_v x = v_i ⟨ " " ⟩ v_j ⟨ "<" ⟩ a_k  -- 150ijk    150123         V1 V2<A3
spelling right_v x = v_i ⟨ " " ⟩ v_j ⟨ ">" ⟩ a_k  -- 151ijk    151123         V1 V2>A3
spelling left_pair_v x = v_i ⟨ " " ⟩ v_j ⟨ "," ⟩ v_j ⟨ "<" ⟩ a_k  -- 152ijk    152123         V1 V2,V2<A3
spelling right_pair_v x = v_i ⟨ " " ⟩ v_j ⟨ "," ⟩ v_j ⟨ ">" ⟩ a_k  -- 153ijk    153120         V1 V2,V2>A0
spelling sum_sv x = v_i ⟨ " " ⟩ s_j ⟨ "+" ⟩ v_k  -- 154ijk    154123         V1 S2+V3
spelling sum_vv x = v_i ⟨ " " ⟩ v_j ⟨ "+" ⟩ v_k  -- 155ijk    155123         V1 V2+V3
spelling difference_sv x = v_i ⟨ " " ⟩ s_j ⟨ "-" ⟩ v_k  -- 156ijk    156103         V1 S0-V3
spelling difference_vv x = v_i ⟨ " " ⟩ v_j ⟨ "-" ⟩ v_k  -- 157ijk    157123         V1 V2-V3
spelling ones_v x = v_i ⟨ " P" ⟩ v_j  -- 174ij1    174121         V1 PV2
spelling parity_v x = v_i ⟨ " Q" ⟩ v_j  -- 174ij2    174122         V1 QV2
spelling mark_z x = text "VM " (v_j ⟨ ",Z" ⟩ end)  -- 1750j0    175020         VM V2,Z
spelling mark_n x = text "VM " (v_j ⟨ ",N" ⟩ end)  -- 1750j1    175021         VM V2,N
spelling mark_p x = text "VM " (v_j ⟨ ",P" ⟩ end)  -- 1750j2    175022         VM V2,P
spelling mark_m x = text "VM " (v_j ⟨ ",M" ⟩ end)  -- 1750j3    175023         VM V2,M
spelling load_v x = v_i ⟨ " ,A0," ⟩ a_k  -- 176i0k    176100         V1 ,A0,A0
spelling store_v x = text ",A0," (a_k ⟨ " " ⟩ v_j)  -- 1770jk    177023         ,A0,A3 V2

-- a first parcel is held in either mode: as in monitor mode or, if it is not held there, as in user mode
abbrev pub held_as : Code → Code → Code
held_as holds_none user = user
held_as (holds_one n) user = holds_one n
held_as (holds_two n) user = holds_two n

abbrev pub either_mode : ℕ → Code
either_mode x = held_as (code_of false x) (code_of true x)

-- its words, none if it begins no instruction that is spelled
abbrev pub words_of_code : Code → ℕ → List ℕ
words_of_code holds_none x = []
words_of_code (holds_one n) x = spelling n x
words_of_code (holds_two n) x = spelling n x

unfoldable pub words_of : ℕ → List ℕ
words_of x = words_of_code (either_mode x) x

-- whether it has a second parcel
abbrev pub has_second : Code → Bool
has_second holds_none = false
has_second (holds_one n) = false
has_second (holds_two n) = true

unfoldable pub second : ℕ → Bool
second x = has_second (either_mode x)

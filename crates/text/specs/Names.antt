-- The fixed text of sheets and reports, as bytes. Assumes nothing.
use Rattle.std.specs.Prelude.{ℕ, List, [], ◌∷◌}

-- `steps=`
abbrev pub name_steps : List ℕ
name_steps = 115 ∷ 116 ∷ 101 ∷ 112 ∷ 115 ∷ 61 ∷ []

-- `words=`
abbrev pub name_words : List ℕ
name_words = 119 ∷ 111 ∷ 114 ∷ 100 ∷ 115 ∷ 61 ∷ []

-- `p=`
abbrev pub name_p : List ℕ
name_p = 112 ∷ 61 ∷ []

-- `xa=`
abbrev pub name_xa : List ℕ
name_xa = 120 ∷ 97 ∷ 61 ∷ []

-- `vl=`
abbrev pub name_vl : List ℕ
name_vl = 118 ∷ 108 ∷ 61 ∷ []

-- `modes=`
abbrev pub name_modes : List ℕ
name_modes = 109 ∷ 111 ∷ 100 ∷ 101 ∷ 115 ∷ 61 ∷ []

-- `iba=`
abbrev pub name_iba : List ℕ
name_iba = 105 ∷ 98 ∷ 97 ∷ 61 ∷ []

-- `ila=`
abbrev pub name_ila : List ℕ
name_ila = 105 ∷ 108 ∷ 97 ∷ 61 ∷ []

-- `dba=`
abbrev pub name_dba : List ℕ
name_dba = 100 ∷ 98 ∷ 97 ∷ 61 ∷ []

-- `dla=`
abbrev pub name_dla : List ℕ
name_dla = 100 ∷ 108 ∷ 97 ∷ 61 ∷ []

-- `ps=`
abbrev pub name_ps : List ℕ
name_ps = 112 ∷ 115 ∷ 61 ∷ []

-- `cln=`
abbrev pub name_cln : List ℕ
name_cln = 99 ∷ 108 ∷ 110 ∷ 61 ∷ []

-- `a=`
abbrev pub name_a : List ℕ
name_a = 97 ∷ 61 ∷ []

-- `s=`
abbrev pub name_s : List ℕ
name_s = 115 ∷ 61 ∷ []

-- `changed=`
abbrev pub name_changed : List ℕ
name_changed = 99 ∷ 104 ∷ 97 ∷ 110 ∷ 103 ∷ 101 ∷ 100 ∷ 61 ∷ []

-- `stop=budget`, a newline
abbrev pub stop_budget : List ℕ
stop_budget = 115 ∷ 116 ∷ 111 ∷ 112 ∷ 61 ∷ 98 ∷ 117 ∷ 100 ∷ 103 ∷ 101 ∷ 116 ∷ 10 ∷ []

-- `stop=not-held`, a newline
abbrev pub stop_not_held : List ℕ
stop_not_held = 115 ∷ 116 ∷ 111 ∷ 112 ∷ 61 ∷ 110 ∷ 111 ∷ 116 ∷ 45 ∷ 104 ∷ 101 ∷ 108 ∷ 100 ∷ 10 ∷ []

-- `stop=monitor-fetch`, a newline
abbrev pub stop_monitor_fetch : List ℕ
stop_monitor_fetch = 115 ∷ 116 ∷ 111 ∷ 112 ∷ 61 ∷ 109 ∷ 111 ∷ 110 ∷ 105 ∷ 116 ∷ 111 ∷ 114 ∷ 45 ∷ 102 ∷ 101 ∷ 116 ∷ 99 ∷ 104 ∷ 10 ∷ []

-- `outside=none`, a newline
abbrev pub outside_none : List ℕ
outside_none = 111 ∷ 117 ∷ 116 ∷ 115 ∷ 105 ∷ 100 ∷ 101 ∷ 61 ∷ 110 ∷ 111 ∷ 110 ∷ 101 ∷ 10 ∷ []

-- `outside=below,`
abbrev pub name_below : List ℕ
name_below = 111 ∷ 117 ∷ 116 ∷ 115 ∷ 105 ∷ 100 ∷ 101 ∷ 61 ∷ 98 ∷ 101 ∷ 108 ∷ 111 ∷ 119 ∷ 44 ∷ []

-- `outside=limit,`
abbrev pub name_over : List ℕ
name_over = 111 ∷ 117 ∷ 116 ∷ 115 ∷ 105 ∷ 100 ∷ 101 ∷ 61 ∷ 108 ∷ 105 ∷ 109 ∷ 105 ∷ 116 ∷ 44 ∷ []

-- `outside=memory,`
abbrev pub name_beyond : List ℕ
name_beyond = 111 ∷ 117 ∷ 116 ∷ 115 ∷ 105 ∷ 100 ∷ 101 ∷ 61 ∷ 109 ∷ 101 ∷ 109 ∷ 111 ∷ 114 ∷ 121 ∷ 44 ∷ []

-- `refused=`
abbrev pub name_refused : List ℕ
name_refused = 114 ∷ 101 ∷ 102 ∷ 117 ∷ 115 ∷ 101 ∷ 100 ∷ 61 ∷ []

-- `line=`
abbrev pub name_line : List ℕ
name_line = 108 ∷ 105 ∷ 110 ∷ 101 ∷ 61 ∷ []

-- `=`, a comma, a newline
abbrev pub equals : ℕ
equals = 61

abbrev pub comma : ℕ
comma = 44

abbrev pub newline : ℕ
newline = 10

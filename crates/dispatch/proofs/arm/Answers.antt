use Prim.Native.Nat.{◌≤◌}
use native.Mathlib.Omega.{arith}
use Rattle.dispatch.specs.Table.{arm_of}
use Rattle.dispatch.proofs.Arms.{none_in}
use Rattle.dispatch.proofs.arm.Goals as goal

pub returns-in-0 : goal.returns-in-0
unfolding arm_of
returns-in-0 c =
    rw c.in-0.is

pub returns-in-1 : goal.returns-in-1
unfolding arm_of
returns-in-1 c =
    rw c.in-1.is

pub returns-in-2 : goal.returns-in-2
unfolding arm_of
returns-in-2 c =
    rw c.in-2.is

pub returns-in-3 : goal.returns-in-3
unfolding arm_of
returns-in-3 c =
    rw c.in-3.is

pub returns-in-4 : goal.returns-in-4
unfolding arm_of
returns-in-4 c =
    rw c.in-4.is

pub returns-in-5 : goal.returns-in-5
unfolding arm_of
returns-in-5 c =
    rw c.in-5.is

pub returns-in-6 : goal.returns-in-6
unfolding arm_of
returns-in-6 c =
    rw c.in-6.is

pub returns-in-7 : goal.returns-in-7
unfolding arm_of
returns-in-7 c =
    rw c.in-7.is

pub returns-in-8 : goal.returns-in-8
unfolding arm_of
returns-in-8 c =
    rw c.in-8.is

pub returns-in-9 : goal.returns-in-9
unfolding arm_of
returns-in-9 c =
    rw c.in-9.is

pub returns-in-10 : goal.returns-in-10
unfolding arm_of
returns-in-10 c =
    rw c.in-10.is

pub returns-in-11 : goal.returns-in-11
unfolding arm_of
returns-in-11 c =
    rw c.in-11.is

pub returns-in-12 : goal.returns-in-12
unfolding arm_of
returns-in-12 c =
    rw c.in-12.is

pub returns-in-13 : goal.returns-in-13
unfolding arm_of
returns-in-13 c =
    rw c.in-13.is

pub returns-in-14 : goal.returns-in-14
unfolding arm_of
returns-in-14 c =
    rw c.in-14.is

pub returns-in-15 : goal.returns-in-15
unfolding arm_of
returns-in-15 c =
    rw c.in-15.is

pub returns-in-16 : goal.returns-in-16
unfolding arm_of
returns-in-16 c =
    rw c.in-16.is

pub returns-in-17 : goal.returns-in-17
unfolding arm_of
returns-in-17 c =
    rw c.in-17.is

pub returns-in-18 : goal.returns-in-18
unfolding arm_of
returns-in-18 c =
    rw c.in-18.is

pub returns-in-19 : goal.returns-in-19
unfolding arm_of
returns-in-19 c =
    rw c.in-19.is

pub returns-in-20 : goal.returns-in-20
unfolding arm_of
returns-in-20 c =
    rw c.in-20.is

pub returns-in-21 : goal.returns-in-21
unfolding arm_of
returns-in-21 c =
    rw c.in-21.is

pub returns-in-22 : goal.returns-in-22
unfolding arm_of
returns-in-22 c =
    rw c.in-22.is

pub returns-in-23 : goal.returns-in-23
unfolding arm_of
returns-in-23 c =
    rw c.in-23.is

pub returns-in-24 : goal.returns-in-24
unfolding arm_of
returns-in-24 c =
    rw c.in-24.is

pub returns-in-25 : goal.returns-in-25
unfolding arm_of
returns-in-25 c =
    rw c.in-25.is

pub returns-in-26 : goal.returns-in-26
unfolding arm_of
returns-in-26 c =
    rw c.in-26.is

pub returns-in-27 : goal.returns-in-27
unfolding arm_of
returns-in-27 c =
    rw c.in-27.is

pub returns-in-28 : goal.returns-in-28
unfolding arm_of
returns-in-28 c =
    rw c.in-28.is

pub returns-in-29 : goal.returns-in-29
unfolding arm_of
returns-in-29 c =
    rw c.in-29.is

pub returns-in-30 : goal.returns-in-30
unfolding arm_of
returns-in-30 c =
    rw c.in-30.is

pub returns-in-31 : goal.returns-in-31
unfolding arm_of
returns-in-31 c =
    rw c.in-31.is

pub returns-in-32 : goal.returns-in-32
unfolding arm_of
returns-in-32 c =
    rw c.in-32.is

pub returns-in-33 : goal.returns-in-33
unfolding arm_of
returns-in-33 c =
    rw c.in-33.is

pub returns-in-34 : goal.returns-in-34
unfolding arm_of
returns-in-34 c =
    rw c.in-34.is

pub returns-in-35 : goal.returns-in-35
unfolding arm_of
returns-in-35 c =
    rw c.in-35.is

pub returns-in-36 : goal.returns-in-36
unfolding arm_of
returns-in-36 c =
    rw c.in-36.is

pub returns-in-37 : goal.returns-in-37
unfolding arm_of
returns-in-37 c =
    rw c.in-37.is

pub returns-in-38 : goal.returns-in-38
unfolding arm_of
returns-in-38 c =
    rw c.in-38.is

pub returns-in-39 : goal.returns-in-39
unfolding arm_of
returns-in-39 c =
    rw c.in-39.is

pub returns-in-40 : goal.returns-in-40
unfolding arm_of
returns-in-40 c =
    rw c.in-40.is

pub returns-in-41 : goal.returns-in-41
unfolding arm_of
returns-in-41 c =
    rw c.in-41.is

pub returns-in-42 : goal.returns-in-42
unfolding arm_of
returns-in-42 c =
    rw c.in-42.is

pub returns-in-43 : goal.returns-in-43
unfolding arm_of
returns-in-43 c =
    rw c.in-43.is

pub returns-in-44 : goal.returns-in-44
unfolding arm_of
returns-in-44 c =
    rw c.in-44.is

pub returns-in-45 : goal.returns-in-45
unfolding arm_of
returns-in-45 c =
    rw c.in-45.is

pub returns-in-46 : goal.returns-in-46
unfolding arm_of
returns-in-46 c =
    rw c.in-46.is

pub returns-in-47 : goal.returns-in-47
unfolding arm_of
returns-in-47 c =
    rw c.in-47.is

pub returns-in-48 : goal.returns-in-48
unfolding arm_of
returns-in-48 c =
    rw c.in-48.is

pub returns-in-49 : goal.returns-in-49
unfolding arm_of
returns-in-49 c =
    rw c.in-49.is

pub returns-in-50 : goal.returns-in-50
unfolding arm_of
returns-in-50 c =
    rw c.in-50.is

pub returns-in-51 : goal.returns-in-51
unfolding arm_of
returns-in-51 c =
    rw c.in-51.is

pub returns-in-52 : goal.returns-in-52
unfolding arm_of
returns-in-52 c =
    rw c.in-52.is

pub returns-in-53 : goal.returns-in-53
unfolding arm_of
returns-in-53 c =
    rw c.in-53.is

pub returns-in-54 : goal.returns-in-54
unfolding arm_of
returns-in-54 c =
    rw c.in-54.is

pub returns-in-55 : goal.returns-in-55
unfolding arm_of
returns-in-55 c =
    rw c.in-55.is

pub returns-in-56 : goal.returns-in-56
unfolding arm_of
returns-in-56 c =
    rw c.in-56.is

pub returns-in-57 : goal.returns-in-57
unfolding arm_of
returns-in-57 c =
    rw c.in-57.is

pub returns-in-58 : goal.returns-in-58
unfolding arm_of
returns-in-58 c =
    rw c.in-58.is

pub returns-in-59 : goal.returns-in-59
unfolding arm_of
returns-in-59 c =
    rw c.in-59.is

pub returns-in-60 : goal.returns-in-60
unfolding arm_of
returns-in-60 c =
    rw c.in-60.is

pub returns-in-61 : goal.returns-in-61
unfolding arm_of
returns-in-61 c =
    rw c.in-61.is

pub returns-in-62 : goal.returns-in-62
unfolding arm_of
returns-in-62 c =
    rw c.in-62.is

pub returns-in-63 : goal.returns-in-63
unfolding arm_of
returns-in-63 c =
    rw c.in-63.is

pub returns-in-64 : goal.returns-in-64
unfolding arm_of
returns-in-64 c =
    rw c.in-64.is

pub returns-in-65 : goal.returns-in-65
unfolding arm_of
returns-in-65 c =
    rw c.in-65.is

pub returns-in-66 : goal.returns-in-66
unfolding arm_of
returns-in-66 c =
    rw c.in-66.is

pub returns-in-67 : goal.returns-in-67
unfolding arm_of
returns-in-67 c =
    rw c.in-67.is

pub returns-in-68 : goal.returns-in-68
unfolding arm_of
returns-in-68 c =
    rw c.in-68.is

pub returns-in-69 : goal.returns-in-69
unfolding arm_of
returns-in-69 c =
    rw c.in-69.is

pub returns-in-70 : goal.returns-in-70
unfolding arm_of
returns-in-70 c =
    rw c.in-70.is

pub returns-in-71 : goal.returns-in-71
unfolding arm_of
returns-in-71 c =
    rw c.in-71.is

pub returns-in-72 : goal.returns-in-72
unfolding arm_of
returns-in-72 c =
    rw c.in-72.is

pub returns-in-73 : goal.returns-in-73
unfolding arm_of
returns-in-73 c =
    rw c.in-73.is

pub returns-in-74 : goal.returns-in-74
unfolding arm_of
returns-in-74 c =
    rw c.in-74.is

pub returns-in-75 : goal.returns-in-75
unfolding arm_of
returns-in-75 c =
    rw c.in-75.is

pub returns-in-76 : goal.returns-in-76
unfolding arm_of
returns-in-76 c =
    rw c.in-76.is

pub returns-in-77 : goal.returns-in-77
unfolding arm_of
returns-in-77 c =
    rw c.in-77.is

pub returns-in-78 : goal.returns-in-78
unfolding arm_of
returns-in-78 c =
    rw c.in-78.is

pub returns-in-79 : goal.returns-in-79
unfolding arm_of
returns-in-79 c =
    rw c.in-79.is

pub returns-in-80 : goal.returns-in-80
unfolding arm_of
returns-in-80 c =
    rw c.in-80.is

pub returns-in-81 : goal.returns-in-81
unfolding arm_of
returns-in-81 c =
    rw c.in-81.is

pub returns-in-82 : goal.returns-in-82
unfolding arm_of
returns-in-82 c =
    rw c.in-82.is

pub returns-in-83 : goal.returns-in-83
unfolding arm_of
returns-in-83 c =
    rw c.in-83.is

pub returns-in-84 : goal.returns-in-84
unfolding arm_of
returns-in-84 c =
    rw c.in-84.is

pub returns-in-85 : goal.returns-in-85
unfolding arm_of
returns-in-85 c =
    rw c.in-85.is

pub returns-in-86 : goal.returns-in-86
unfolding arm_of
returns-in-86 c =
    rw c.in-86.is

pub returns-in-87 : goal.returns-in-87
unfolding arm_of
returns-in-87 c =
    rw c.in-87.is

pub returns-in-88 : goal.returns-in-88
unfolding arm_of
returns-in-88 c =
    rw c.in-88.is

pub returns-in-89 : goal.returns-in-89
unfolding arm_of
returns-in-89 c =
    rw c.in-89.is

pub returns-in-90 : goal.returns-in-90
unfolding arm_of
returns-in-90 c =
    rw c.in-90.is

pub returns-in-91 : goal.returns-in-91
unfolding arm_of
returns-in-91 c =
    rw c.in-91.is

pub returns-in-92 : goal.returns-in-92
unfolding arm_of
returns-in-92 c =
    rw c.in-92.is

pub returns-in-93 : goal.returns-in-93
unfolding arm_of
returns-in-93 c =
    rw c.in-93.is

pub returns-in-94 : goal.returns-in-94
unfolding arm_of
returns-in-94 c =
    rw c.in-94.is

pub returns-in-95 : goal.returns-in-95
unfolding arm_of
returns-in-95 c =
    rw c.in-95.is

pub returns-in-96 : goal.returns-in-96
unfolding arm_of
returns-in-96 c =
    rw c.in-96.is

pub returns-in-97 : goal.returns-in-97
unfolding arm_of
returns-in-97 c =
    rw c.in-97.is

pub returns-in-98 : goal.returns-in-98
unfolding arm_of
returns-in-98 c =
    rw c.in-98.is

pub returns-in-99 : goal.returns-in-99
unfolding arm_of
returns-in-99 c =
    rw c.in-99.is

pub returns-in-100 : goal.returns-in-100
unfolding arm_of
returns-in-100 c =
    rw c.in-100.is

pub returns-in-101 : goal.returns-in-101
unfolding arm_of
returns-in-101 c =
    rw c.in-101.is

pub returns-in-102 : goal.returns-in-102
unfolding arm_of
returns-in-102 c =
    rw c.in-102.is

pub returns-in-103 : goal.returns-in-103
unfolding arm_of
returns-in-103 c =
    rw c.in-103.is

pub returns-in-104 : goal.returns-in-104
unfolding arm_of
returns-in-104 c =
    rw c.in-104.is

pub returns-in-105 : goal.returns-in-105
unfolding arm_of
returns-in-105 c =
    rw c.in-105.is

pub returns-in-106 : goal.returns-in-106
unfolding arm_of
returns-in-106 c =
    rw c.in-106.is

pub returns-in-107 : goal.returns-in-107
unfolding arm_of
returns-in-107 c =
    rw c.in-107.is

pub returns-in-108 : goal.returns-in-108
unfolding arm_of
returns-in-108 c =
    rw c.in-108.is

pub returns-in-109 : goal.returns-in-109
unfolding arm_of
returns-in-109 c =
    rw c.in-109.is

pub returns-in-110 : goal.returns-in-110
unfolding arm_of
returns-in-110 c =
    rw c.in-110.is

pub returns-in-111 : goal.returns-in-111
unfolding arm_of
returns-in-111 c =
    rw c.in-111.is

pub returns-in-112 : goal.returns-in-112
unfolding arm_of
returns-in-112 c =
    rw c.in-112.is

pub returns-in-113 : goal.returns-in-113
unfolding arm_of
returns-in-113 c =
    rw c.in-113.is

pub returns-in-114 : goal.returns-in-114
unfolding arm_of
returns-in-114 c =
    rw c.in-114.is

pub returns-in-115 : goal.returns-in-115
unfolding arm_of
returns-in-115 c =
    rw c.in-115.is

pub returns-in-116 : goal.returns-in-116
unfolding arm_of
returns-in-116 c =
    rw c.in-116.is

pub returns-in-117 : goal.returns-in-117
unfolding arm_of
returns-in-117 c =
    rw c.in-117.is

pub returns-in-118 : goal.returns-in-118
unfolding arm_of
returns-in-118 c =
    rw c.in-118.is

pub returns-in-119 : goal.returns-in-119
unfolding arm_of
returns-in-119 c =
    rw c.in-119.is

pub returns-in-120 : goal.returns-in-120
unfolding arm_of
returns-in-120 c =
    rw c.in-120.is

pub returns-in-121 : goal.returns-in-121
unfolding arm_of
returns-in-121 c =
    rw c.in-121.is

pub returns-in-122 : goal.returns-in-122
unfolding arm_of
returns-in-122 c =
    rw c.in-122.is

pub returns-in-123 : goal.returns-in-123
unfolding arm_of
returns-in-123 c =
    rw c.in-123.is

pub returns-in-124 : goal.returns-in-124
unfolding arm_of
returns-in-124 c =
    rw c.in-124.is

pub returns-in-125 : goal.returns-in-125
unfolding arm_of
returns-in-125 c =
    rw c.in-125.is

pub returns-in-126 : goal.returns-in-126
unfolding arm_of
returns-in-126 c =
    rw c.in-126.is

pub returns-in-127 : goal.returns-in-127
unfolding arm_of
returns-in-127 c =
    rw c.in-127.is

pub returns-in_default : goal.returns-in_default
unfolding arm_of
returns-in_default c =
    let l : 128 ≤ c.args.code = none_in Unit _ 0 128 c.in_default.in_default-own.rest (omega arith) in absurd (omega arith)

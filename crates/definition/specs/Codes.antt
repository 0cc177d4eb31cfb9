-- The numbers that the function file uses for kinds of statements and tags of expressions (document 01, "The function file").
use Rattle.std.specs.Prelude.{ℕ}

abbrev pub k_assign : ℕ
k_assign = 1

abbrev pub k_store : ℕ
k_store = 2

abbrev pub k_call : ℕ
k_call = 3

abbrev pub k_branch : ℕ
k_branch = 4

abbrev pub k_flags : ℕ
k_flags = 5

abbrev pub k_return : ℕ
k_return = 6

abbrev pub k_other : ℕ
k_other = 7

abbrev pub t_const : ℕ
t_const = 1

abbrev pub t_use : ℕ
t_use = 2

abbrev pub t_bin : ℕ
t_bin = 3

abbrev pub t_un : ℕ
t_un = 4

abbrev pub t_load : ℕ
t_load = 5

abbrev pub t_opaque : ℕ
t_opaque = 6

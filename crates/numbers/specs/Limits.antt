-- The limits that refusals judge by.
use Rattle.std.specs.Prelude.{ℕ, ◌^◌, Bool, ◌&&◌, nat_le, nat_lt}

-- every whole number up to this one is a float; refusals 8 and 29 ask it of whole numbers, and 21 of instants
abbrev pub max_exact : ℕ
max_exact = 2 ^ 53

-- refusals 19 and 29: the most blackouts, and the most kills, of a direction
abbrev pub max_entries : ℕ
max_entries = 128

-- refusal 30: how many bytes a slot can have
abbrev pub min_width : ℕ
min_width = 64

abbrev pub max_width : ℕ
max_width = 9216

unfoldable pub is_width_of : ℕ → Bool
is_width_of n = nat_le min_width n && nat_le n max_width

-- refusal 22, where there are no slots: the longest packet in bytes
abbrev pub max_length : ℕ
max_length = max_width

unfoldable pub is_length_of : ℕ → Bool
is_length_of n = nat_le n max_length

-- refusal 24: the most copies that a queue can hold
abbrev pub max_capacity : ℕ
max_capacity = 1048576

-- refusal 25: no counter and no next seq that is handed in reaches this
abbrev pub counter_limit : ℕ
counter_limit = 2 ^ 60

unfoldable pub is_counter_of : ℕ → Bool
is_counter_of n = nat_lt n counter_limit

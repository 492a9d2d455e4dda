-- The numbers of the refusals, as document 01 gives them under "Who can cause a refusal", and document 02 with each request.
use Rattle.std.specs.Prelude.{◌≡◌, ℕ, ◌<◌, ◌⊎◌, Bool, true, leb, Result, MatchResult, IfErr}
use Rattle.numbers.specs.declared.refusal.Refusal.{Refusal}
use Rattle.numbers.specs.declared.refusal.UnknownRefusal.{UnknownRefusal}
use Rattle.numbers.specs.declared.refusal.Refusal.TheVariants.{TextLength, TextEnd, Byte, Argument, ValueLacking, Mode, Whole, WholeAbove, Zero, Decimal, Probability, GeParts, GeZero, Reorder, Colon, Window, KillParts, KillStyle, Entries, KillUnderUdp, Instant, Length, Memory, Capacity, Counter, Keeping, Due, Full, Settings, Width, NatChangeUnderTcp, ReorderUnderTcp, DuplicateUnderTcp}

abbrev pub number_of : Refusal → ℕ
number_of TextLength = 1
number_of TextEnd = 2
number_of Byte = 3
number_of Argument = 4
number_of ValueLacking = 5
number_of Mode = 6
number_of Whole = 7
number_of WholeAbove = 8
number_of Zero = 9
number_of Decimal = 10
number_of Probability = 11
number_of GeParts = 12
number_of GeZero = 13
number_of Reorder = 14
number_of Colon = 15
number_of Window = 16
number_of KillParts = 17
number_of KillStyle = 18
number_of Entries = 19
number_of KillUnderUdp = 20
number_of Instant = 21
number_of Length = 22
number_of Memory = 23
number_of Capacity = 24
number_of Counter = 25
number_of Keeping = 26
number_of Due = 27
number_of Full = 28
number_of Settings = 29
number_of Width = 30
number_of NatChangeUnderTcp = 31
number_of ReorderUnderTcp = 32
number_of DuplicateUnderTcp = 33

-- the refusal with this number, or that none has it
abbrev pub Numbers : ℕ → Result Refusal UnknownRefusal → Type 0
Numbers number r = MatchResult r (λ refusal. number_of refusal ≡ number) (λ e. (e.0 ≡ number) × ((number ≡ 0) ⊎ (33 < number)))

-- whether a refusal of an option text comes before the mode checks, which are its last
abbrev pub is_before_mode_checks : Refusal → Bool
is_before_mode_checks refusal = leb (number_of refusal) 19

abbrev pub BeforeModeChecks : Refusal → Type 0
BeforeModeChecks refusal = is_before_mode_checks refusal ≡ true

-- what is read is taken, or refused before the mode checks
abbrev pub EarlyIfRefused : {A : Type 0} → Result A Refusal → Type 0
EarlyIfRefused r = IfErr r BeforeModeChecks

-- a text that is too long
abbrev pub refused_text_length : ℕ
refused_text_length = 1

-- a text whose last byte is not zero
abbrev pub refused_text_end : ℕ
refused_text_end = 2

-- a byte that is not ASCII
abbrev pub refused_byte : ℕ
refused_byte = 3

-- an argument without two dashes in front
abbrev pub refused_argument : ℕ
refused_argument = 4

-- a key without its value
abbrev pub refused_value_lacking : ℕ
refused_value_lacking = 5

-- a mode that is neither udp nor tcp
abbrev pub refused_mode : ℕ
refused_mode = 6

-- a whole number that is malformed
abbrev pub refused_whole : ℕ
refused_whole = 7

-- a whole number above 2^53
abbrev pub refused_whole_above : ℕ
refused_whole_above = 8

-- a zero where none may be
abbrev pub refused_zero : ℕ
refused_zero = 9

-- a decimal that is malformed
abbrev pub refused_decimal : ℕ
refused_decimal = 10

-- a probability above 1
abbrev pub refused_probability : ℕ
refused_probability = 11

-- a burst loss that has not three parts
abbrev pub refused_ge_parts : ℕ
refused_ge_parts = 12

-- a burst loss whose p or r is zero
abbrev pub refused_ge_zero : ℕ
refused_ge_zero = 13

-- reordering without a delay
abbrev pub refused_reorder : ℕ
refused_reorder = 14

-- a window without a colon
abbrev pub refused_colon : ℕ
refused_colon = 15

-- a window that ends where it starts or before
abbrev pub refused_window : ℕ
refused_window = 16

-- a kill that has not three parts
abbrev pub refused_kill_parts : ℕ
refused_kill_parts = 17

-- a kill whose style is neither rst nor hold
abbrev pub refused_kill_style : ℕ
refused_kill_style = 18

-- more blackouts or kills than a direction can have
abbrev pub refused_entries : ℕ
refused_entries = 19

-- a kill under udp
abbrev pub refused_kill_under_udp : ℕ
refused_kill_under_udp = 20

-- an instant that is none
abbrev pub refused_instant : ℕ
refused_instant = 21

-- a packet that is longer than a slot, or, where there are no slots, than any slot may be
abbrev pub refused_length : ℕ
refused_length = 22

-- lent memory that is too short
abbrev pub refused_memory : ℕ
refused_memory = 23

-- a capacity that is 0 or too large
abbrev pub refused_capacity : ℕ
refused_capacity = 24

-- a counter or a next seq that is too large
abbrev pub refused_counter : ℕ
refused_counter = 25

-- state or lent memory that was altered between calls
abbrev pub refused_keeping : ℕ
refused_keeping = 26

-- a due that is NaN
abbrev pub refused_due : ℕ
refused_due = 27

-- a queue that is full
abbrev pub refused_full : ℕ
refused_full = 28

-- settings of which one is out of its range
abbrev pub refused_settings : ℕ
refused_settings = 29

-- a slot width that is out of range
abbrev pub refused_width : ℕ
refused_width = 30

-- a change of address under tcp
abbrev pub refused_nat_change_under_tcp : ℕ
refused_nat_change_under_tcp = 31

-- reordering under tcp
abbrev pub refused_reorder_under_tcp : ℕ
refused_reorder_under_tcp = 32

-- duplicates under tcp
abbrev pub refused_duplicate_under_tcp : ℕ
refused_duplicate_under_tcp = 33

-- A cell's two's complement after so much cell_more or cell_less: the sum modulo 2^64. Assumes nothing.
use Rattle.std.specs.Prelude.{ℕ, ◌+◌, ◌-◌, ◌%◌}

abbrev pub cell_more : ℕ → ℕ → ℕ
cell_more cell n = (cell + n) % 18446744073709551616

abbrev pub cell_less : ℕ → ℕ → ℕ
cell_less cell n = (cell + (18446744073709551616 - n)) % 18446744073709551616

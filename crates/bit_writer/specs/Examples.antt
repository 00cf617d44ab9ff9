-- Worked examples, computed: one table, one theorem. Symbols are written from a fresh sink to the end of the payload.
use Rattle.std.specs.Prelude.{ℕ, Bool, true, false, List, [], ◌∷◌, ◌++◌, map, ◌≡◌, refl, pos, negsuc}
use Rattle.codes.specs.Bits.{to_bits}
use Rattle.codes.specs.ExpGolomb.{halvings, floor_log2, ue_code, code_num, se_code}
use Rattle.codes.specs.Symbols.{Symbol, first, putting, check, checked}
use Rattle.nal.specs.Escape.{zero_run, needs_escape, escape_byte, escape_run, escape_end}
use Rattle.bit_writer.specs.Writing.{Writing, sink_over, fresh, put_raw, put_raws, coded, coded_run, put_byte, finished, put_bit, trailing_bits, step, play, closed}
use Rattle.codes.specs.Coded.{flag_bit, ue_symbols, se_symbols, only_if}

-- a refusal, the count of bytes, and the output
record Outcome : Type 0 where
  refusal : ℕ
  count : ℕ
  output : List ℕ

-- what is written, whether it is escaped, the output before, and what must come out
record Example : Type 0 where
  symbols : List Symbol
  escapes : Bool
  output : List ℕ
  wanted : Outcome

outcome : ℕ → ℕ → List ℕ → Outcome
outcome r n o = record { refusal = r; count = n; output = o }

example : List Symbol → Bool → List ℕ → Outcome → Example
example xs e o r = record { symbols = xs; escapes = e; output = o; wanted = r }

left : Writing → Outcome
left w = outcome w.sink.refused w.sink.put w.out

run : Example → Outcome
run x = left (closed (play (sink_over (fresh x.escapes 0) x.output) x.symbols))

-- u(6), a flag, ue(v) and se(v): 000101 1 00101 011
fields : List Symbol
fields = putting (to_bits 6 5) ++ (putting (flag_bit 1 ∷ []) ++ (ue_symbols 4 ++ se_symbols (negsuc 0)))

table : List Example
table =
    example [] false (9 ∷ 9 ∷ []) (outcome 0 1 (0x80 ∷ 9 ∷ []))
    ∷ example fields false (9 ∷ 9 ∷ 9 ∷ []) (outcome 0 2 (0x16 ∷ 0x57 ∷ 9 ∷ []))
    ∷ example fields false (9 ∷ []) (outcome 0 2 (0x16 ∷ []))
    ∷ example fields false [] (outcome 0 2 [])
    ∷ example (putting (to_bits 32 0x00000001)) false [] (outcome 0 5 [])
    ∷ example (putting (to_bits 32 0x00000001)) true (9 ∷ 9 ∷ 9 ∷ 9 ∷ 9 ∷ 9 ∷ 9 ∷ []) (outcome 0 6 (0x00 ∷ 0x00 ∷ 0x03 ∷ 0x00 ∷ 0x01 ∷ 0x80 ∷ 9 ∷ []))
    ∷ example (putting (to_bits 32 0)) true (9 ∷ 9 ∷ 9 ∷ []) (outcome 0 6 (0x00 ∷ 0x00 ∷ 0x03 ∷ []))
    ∷ example (ue_symbols 4294967294) false (9 ∷ []) (outcome 0 8 (0x00 ∷ []))
    ∷ example (ue_symbols 4294967295) false [] (outcome 25 9 [])
    ∷ example (se_symbols (pos 2147483647)) false [] (outcome 0 8 [])
    ∷ example (se_symbols (negsuc 2147483646)) false [] (outcome 0 8 [])
    ∷ example (se_symbols (negsuc 2147483647)) false [] (outcome 25 9 [])
    ∷ example (check false 24 ++ ue_symbols 4294967295) false [] (outcome 24 9 [])
    ∷ example (only_if false (ue_symbols 4294967295) ++ check true 24) false [] (outcome 0 1 [])
    ∷ []

all : map run table ≡ map (λ x. x.wanted) table
unfolding outcome example left run fields table closed play step put_bit put_byte put_raws put_raw coded coded_run finished trailing_bits to_bits halvings floor_log2 ue_code code_num se_code first check checked zero_run needs_escape escape_byte escape_run escape_end
all = refl

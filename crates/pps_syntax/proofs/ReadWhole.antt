-- A set that reading accepted was inside its bytes all along: its fields took exactly the bits that writing them puts, then came the extension bits and the trailing bits.
use Rattle.std.specs.Prelude.{ℕ, ◌+◌, ◌-◌, ◌*◌, ◌/◌, ◌<◌, ◌≡◌, refl, List, Bool, true, false, cond, ◌&&◌, eqb}
use Rattle.std.proofs.Common.{subst, arith, eqb-true}
use Rattle.bit_reader.specs.declared.Cursor.{Cursor}
use Rattle.bit_reader.specs.Extension.{extension_bits}
use Rattle.bit_reader.specs.Reading.{cursor_at, trailing_read}
use Rattle.bit_reader.specs.Took.{Going}
use Rattle.codes.specs.Bytes.{bit_at}
use Rattle.pps_syntax.specs.Pps.{Pps, pps, pps_faithful}
use Rattle.pps_syntax.specs.Rbsp.{ReadSet, accepted, refused, extension_for, behind_extension, answered, read_rbsp}
use Rattle.pps_syntax.specs.TrailingTaken.{Trailing, trailing-accepted, extension-last}
use Rattle.syntax.specs.Element.{Parsed}
use Rattle.syntax.specs.Elements.{is_set}
use Rattle.syntax.proofs.Round.{read_then_written}
use Rattle.pps_syntax.specs.ReadWhole.{fields_read, ReadWhole}

-- ---- the answer taken apart
accepted-same : (a b : ReadSet) → accepted a ≡ accepted b → a ≡ b
accepted-same a b e = cc

refused-accepted : (n : ℕ) (a : ReadSet) → refused n ≡ accepted a → ⊥
refused-accepted n a e = let z : ◌≡◌ {A = ℕ} 0 1 = cc in omega arith

-- what an accepted answer says
abbrev said : Pps → ℕ → ℕ → Cursor → ReadSet
said r at n d = record { set = r; extension_first_bit = cond (eqb n 0) 0 at; extension_count = n; bytes_taken = d.at / 8 }

answered-accepted : (r : Pps) (at n : ℕ) (d : Cursor) (a : ReadSet) → answered r at n d ≡ accepted a → (d.refused ≡ 0) × (said r at n d ≡ a)
unfolding answered
answered-accepted r at n d a e = split (eqb d.refused 0) refl e
  where
    split : (b : Bool) → eqb d.refused 0 ≡ b → cond b (accepted (said r at n d)) (refused d.refused) ≡ accepted a → (d.refused ≡ 0) × (said r at n d ≡ a)
    split true q z = (eqb-true d.refused 0 q, accepted-same (said r at n d) a z)
    split false q z = absurd (refused-accepted d.refused a z)

-- where bits are taken for the extension, the last is a 1
last_of : (s : List ℕ) (p : Parsed Pps) → 0 < extension_for s p → bit_at s (p.next.at + extension_for s p - 1) ≡ 1
unfolding extension_for
last_of s p h = split (is_set p.value.back.picture_header.pps_extension_flag && eqb p.next.refused 0) h
  where
    split : (b : Bool) → 0 < cond b (extension_bits s p.next.at) 0 → bit_at s (p.next.at + cond b (extension_bits s p.next.at) 0 - 1) ≡ 1
    split true h = extension-last s p.next.at h
    split false h = absurd (omega arith)

-- what is said of an RBSP whose trailing bits are accepted
whole : (rbsp : List ℕ) (n : ℕ) (d : Cursor) → n ≡ extension_for rbsp (fields_read rbsp) → Trailing rbsp (behind_extension (fields_read rbsp).next n) d
    → ReadWhole rbsp (said (fields_read rbsp).value (fields_read rbsp).next.at n d)
whole rbsp n d e t =
    let at : ℕ = (fields_read rbsp).next.at + n in
    let g : Going rbsp (fields_read rbsp).next = record { unrefused = t.going.unrefused; inside = omega (arith, t.going.inside) } in
    let taken : d.at / 8 * 8 ≡ at / 8 * 8 + 8 = rw t.ends (omega arith) in
    record {
      set_is = refl;
      fields = read_then_written pps pps_faithful rbsp (cursor_at 0) g;
      going = g;
      extension-count = e;
      extension-first = refl;
      extension-last = rw e (last_of rbsp (fields_read rbsp));
      trailing = rw taken t.bits;
    }

-- Reading that accepted a set was inside all along.
pub read_whole : (rbsp : List ℕ) (a : ReadSet) → read_rbsp rbsp ≡ accepted a → ReadWhole rbsp a
unfolding read_rbsp
read_whole rbsp a e =
    let n : ℕ = extension_for rbsp (fields_read rbsp) in
    let c : Cursor = behind_extension (fields_read rbsp).next n in
    let b = answered-accepted (fields_read rbsp).value (fields_read rbsp).next.at n (trailing_read rbsp c) a e in
    subst (ReadWhole rbsp) b.1 (whole rbsp n (trailing_read rbsp c) refl (trailing-accepted rbsp c b.0))

-- QP and deblocking offsets (H.266 7.4.3.5): −12 to 12, else 21.
use Rattle.std.specs.Prelude.{Bool, ◌&&◌, ℤ, pos, negsuc}
use Rattle.std.proofs.Common.{lit<}
use Rattle.std.specs.Int.Signed.{le_z}
use Rattle.syntax.specs.Element.{Element}
use Rattle.syntax.specs.Elements.{se, limited, sameℤ, or_else}
use Rattle.syntax.proofs.Elements.{absent}

abbrev pub in_range : ℤ → Bool
in_range v = le_z (negsuc 11) v && le_z v (pos 12)

abbrev pub offset : Element ℤ
offset = limited se in_range 21 (lit< tt)

-- coded where `on`, else the inferred value
abbrev pub offset_or : Bool → ℤ → Element ℤ
offset_or on inferred = or_else on offset (absent sameℤ inferred 0)

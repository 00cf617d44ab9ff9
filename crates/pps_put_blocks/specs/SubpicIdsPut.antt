-- pps_num_subpics_minus1 as it is written.
use Rattle.std.specs.Prelude.{ℕ, Bool, cond, ◌&&◌, leb}
use Rattle.std.proofs.Common.{lit<}
use Rattle.syntax.specs.Element.{Element}
use Rattle.syntax.specs.Elements.{ue, limited, sameℕ, or_else}
use Rattle.syntax.proofs.Elements.{absent}
use Rattle.pps_syntax.specs.SubpicIds.{max_subpics_minus1}

-- coded in a partitioned picture, else 0
abbrev pub num_subpics : Bool → Bool → Element ℕ
num_subpics on partitioned = or_else (on && partitioned) (limited ue (λ v. leb v max_subpics_minus1) 8 (lit< tt)) (absent sameℕ 0 (cond on 26 0))

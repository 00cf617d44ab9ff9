use native.Mathlib.Omega.{arith}
use Rattle.h266.specs.Header.{header_made}
use Rattle.h266.proofs.parse_nal_header.Goals as goal

pub returns : goal.returns
returns c = header_made _ (omega arith) (omega arith) (omega arith)

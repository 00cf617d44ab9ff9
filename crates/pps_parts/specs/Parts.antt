-- The two parts of a set around its partition block, as they are handed over: a list by its length in the record's block.
use Rattle.pps_syntax.specs.Pps.{Front, Back}
use Rattle.pps_syntax.specs.Record.{mapping_of}
use Rattle.pps_blocks.specs.Triples.{block_of}
use Rattle.pps_parts.specs.declared.FrontRead.{FrontRead}
use Rattle.pps_parts.specs.declared.BackRead.{BackRead}

abbrev pub front_of : Front → FrontRead
front_of f = record { head = f.head; conf_win = f.conf_win; scaling_win = f.scaling_win; kind = f.kind; subpic_ids = mapping_of f.subpic_ids }

abbrev pub back_of : Back → BackRead
back_of b = record { references = b.references; chroma = block_of b.chroma; deblocking = b.deblocking; picture_header = b.picture_header }

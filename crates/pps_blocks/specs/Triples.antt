-- The chroma block as its reader gives it: the triples of its list by value, the list by its length in the block.
use Rattle.pps_syntax.specs.Chroma.{ChromaToolOffsets}
use Rattle.pps_syntax.specs.Record.{chroma_of, triples_of}
use Rattle.pps_blocks.specs.declared.chroma.Chroma.{Chroma}

abbrev pub block_of : ChromaToolOffsets → Chroma
block_of c = record { block = chroma_of c; triples = triples_of c.list }

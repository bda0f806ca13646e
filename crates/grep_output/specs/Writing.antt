-- What contracts see of a standard writer as an output: the writer, and what its last call
-- returned.
use Rattle.grep_output.specs.Outputs.{OutputCall, writes, flushes}
use Rattle.grep_output.specs.declared.writing.LastCall.{LastCall}
use Rattle.grep_output.specs.declared.writing.LastCall.TheVariants.{Write, Flush}

pub record Writer (W : Type 0) : Type 0 where
  pub inner : W
  pub last : LastCall

-- a call without the bytes that it was given
abbrev pub last_of : OutputCall → LastCall
last_of (writes bytes result) = Write result
last_of (flushes result) = Flush result

-- What surrounds a run, by what may be known of it.
use Rattle.std.specs.declared.io.Read.{Ghosts as ReadOf}
use Rattle.grep_output.specs.declared.output.Output.{Ghosts as OutputOf}
use Rattle.grep_searcher.specs.declared.open.Open.{Ghosts as OpenOf}
use Rattle.grep_searcher.specs.declared.Source.{Ghosts as SourceOf}
use Rattle.linegrep_files.specs.declared.folders.Folders.{Ghosts as FoldersOf}
use Rattle.linegrep_cli.specs.declared.system.System.{Ghosts as SystemOf}

-- a system `S` that opens files `F`, standard input `R`, standard output `W` and standard error
-- `X`, each by the ghost members of its trait
pub record World (S F R W X : Type 0) : Type 1 where
  pub system : SystemOf S F
  pub opening : OpenOf S F
  pub folders : FoldersOf S
  pub files : ReadOf F
  pub input : SourceOf R
  pub output : OutputOf W
  pub errors : OutputOf X

-- the world of a run with these bounds
abbrev pub world_of : {S F R W X : Type 0} → SystemOf S F → OpenOf S F → FoldersOf S → ReadOf F
    → SourceOf R → OutputOf W → OutputOf X → World S F R W X
world_of system opening folders files input output errors = record {
  system = system;
  opening = opening;
  folders = folders;
  files = files;
  input = input;
  output = output;
  errors = errors;
}

-- Which file of the system is which.
use Rattle.std.specs.Prelude.{Bool, ◌&&◌, ◌==◌}
use Rattle.linegrep_files.specs.declared.file_id.FileId.{FileId}

-- both are the same file
abbrev pub is_same_file : FileId → FileId → Bool
is_same_file one other = (one.device == other.device) && (one.inode == other.inode)

-- both are on one file system
abbrev pub is_beside : FileId → FileId → Bool
is_beside one other = one.device == other.device

use Rattle.grep_ignore.proofs.rows.match_piece.Goals as goal

pub returns-in-One : goal.returns-in-One
returns-in-One c = λ f is. rw c.in-One.is (c.match_one.ensures f is)

pub returns-in-Many : goal.returns-in-Many
returns-in-Many c = λ f is. rw c.in-Many.is (c.match_many.ensures f is)

pub returns-in-Folders : goal.returns-in-Folders
returns-in-Folders c = λ f is. rw c.in-Folders.is (c.match_folders.ensures f is)

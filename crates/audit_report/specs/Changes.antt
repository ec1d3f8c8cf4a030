-- The lines of changes: from which key each sender came to which.
use Rattle.std.specs.Prelude.{ℕ, List, [], ◌∷◌, flat_map, codes, decimal}
use Rattle.hex.specs.Hex.{encode_lower}
use Rattle.use_notes.specs.declared.changes.change.Change.{Change}
use Rattle.audit_report.specs.Lines.{line_of}

-- the sender and both keys; the last packet under the one before the first under the other, and how much
-- earlier it came; how many under the one came behind that, and how much later the last of these
abbrev pub change_words : Change → List (List ℕ)
change_words c = encode_lower c.sci.0 ∷ decimal c.from ∷ decimal c.to ∷ codes "last" ∷ decimal c.last
    ∷ codes "first" ∷ decimal c.first ∷ codes "gap" ∷ decimal c.gap ∷ codes "after" ∷ decimal c.after
    ∷ decimal c.behind ∷ []

abbrev pub change_line : Change → List ℕ
change_line c = line_of (codes "change") (change_words c)

abbrev pub change_lines : List Change → List ℕ
change_lines cs = flat_map change_line cs

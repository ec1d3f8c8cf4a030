use Rattle.capture_file.proofs.FilesRead.{file-of-packets, one-file}
use Rattle.capture_file.proofs.laws.law_capture.Goals as goal

pub returns-clause-packets : goal.returns-clause-packets
returns-clause-packets c = file-of-packets

pub returns-clause-only : goal.returns-clause-only
returns-clause-only c = one-file

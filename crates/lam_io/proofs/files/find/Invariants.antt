use Rattle.std.proofs.Common.{◌≡◌, drop}
use Rattle.lam_io.specs.Reads.{bytes_of}
use Rattle.lam_io.proofs.files.find.Given as goal

-- the files that are left have what all of them have
abbrev pub invariant-loop-file : goal.invariant-loop-file
invariant-loop-file l = bytes_of (drop l.file-index l.files) l.name ≡ bytes_of l.fn.files l.name

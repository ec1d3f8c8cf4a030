use Rattle.lan_base.proofs.Public.{put_then}
use Rattle.capture_file.proofs.writing.put_header.Goals as goal

pub returns : goal.returns
returns c =
    rw (
      c.to_be_bytes.ensures,
      c.to_be_bytes-2.ensures,
      c.to_be_bytes-3.ensures,
      c.to_be_bytes-4.ensures,
    )
    at
    (put_then _ _ _ _ _ c.put.ensures
    (put_then _ _ _ _ _ c.put-2.ensures
    (put_then _ _ _ _ _ c.put-3.ensures c.put-4.ensures)))

use Rattle.std.proofs.Common.{◌≡◌, map, arith}
use Rattle.git_index.specs.Entries.{tracked}
use Rattle.git_index.specs.Private.Reading.{room_of}
use Rattle.git_index.proofs.lemmas.FileLaws.{finds_by}
use Rattle.git_index.proofs.file.read.Goals as goal

pub returns-clause-found : goal.returns-clause-found
returns-clause-found c =
    let room : c.saturating_mul-room.result ≡ room_of c.args.bytes.now = omega arith in
    finds_by c.args.format c.args.bytes.now c.split_at.result.0.now c.hash_len-hash_len.result ((c.in_ok-version.version, c.in_ok-version.count), c.in_ok-version.rest.now)
    c.saturating_mul-room.result (map tracked c.in_ok-entries.entries.items) c.in_ok-entries.extensions.now c.hash_len-hash_len.ensures c.if-bytes-hash_len.false c.split_at.ensures.front
    c.in_ok-version.ensures room c.in_ok-entries.ensures

use Rattle.grep_printer.proofs.JsonBytesLemmas.{bytes_json-text, bytes_json-other}
use Rattle.grep_printer.proofs.json_text.JsonText.push_bytes.Goals as goal

pub returns-in-Ok : goal.returns-in-Ok
returns-in-Ok c =
    rw (bytes_json-text c.args.bytes.now c.in-Ok.ensures.1) (simp c.in-Ok.ensures.0 at c.push_wrapped.ensures)

pub returns-in-Err : goal.returns-in-Err
returns-in-Err c = rw (bytes_json-other c.args.bytes.now c.in-Err.ensures) c.push_encoded.ensures

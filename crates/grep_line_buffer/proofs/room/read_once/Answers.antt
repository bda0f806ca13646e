use Rattle.std.proofs.Common.{◌≡◌, length, take, ap, sym, ◌∙◌, arith}
use Rattle.grep_line_buffer.proofs.room.read_once.Goals as goal

pub returns-in-Ok-clause-reads : goal.returns-in-Ok-clause-reads
returns-in-Ok-clause-reads g c =
    let made = c.in-Ok.ensures in
    let given = take c.in-Ok.count c.read.new.buffer in
    let len : length given ≡ c.in-Ok.count = sym made.bound.1 in
    record {
      decodes = made.decodes;
      gives = made.gives;
      settled = record { settled = made.settled (omega arith); passing = made.passing };
      stays = made.stays;
      ahead = λ passing. rw len (made.ahead passing);
      done = λ none. made.done (sym len ∙ ap (λ l. length l) none) (omega arith);
      begins = λ nothing. made.begins nothing (omega arith);
      last = made.last;
      end = λ none. made.end (sym len ∙ ap (λ l. length l) none) (omega arith);
    }

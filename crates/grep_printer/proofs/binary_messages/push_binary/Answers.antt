use Rattle.grep_printer.proofs.binary_messages.push_binary.Goals as goal

pub returns-in-Quit : goal.returns-in-Quit
returns-in-Quit c = rw c.in-Quit.is c.push_message.ensures

pub returns-in-Convert : goal.returns-in-Convert
returns-in-Convert c = rw c.in-Convert.is c.push_message-in-Convert.ensures

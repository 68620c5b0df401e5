use Rattle.std.proofs.Common.{◌≡◌, [], ap, ◌∙◌, string_bytes, rules}
use Rattle.json_tree.specs.Proper.{IsProper}
use Rattle.json_tree.specs.Reading.{read_json}
use Rattle.json_tree.specs.Tokens.{tokens_of}
use Rattle.json_tree.specs.View.{data_of}
use Rattle.json_tree.specs.Written.{text_of}
use Rattle.json_tree.proofs.RoundTrip.{reads_back}
use Rattle.json_tree.proofs.Texts.{print-tokens_of}
use Rattle.json_tree.proofs.writing.write_text.Goals as goal

text_is : (c : goal.After-from_utf8_unchecked) → string_bytes c.from_utf8_unchecked.result ≡ text_of (data_of c.args.json.now)
text_is c =
    let bytes : string_bytes c.from_utf8_unchecked.result ≡ c.into_inner-bytes.result.items = search rules in
    let before : c.write.new.out.before ≡ [] = search rules in
    let tokens : c.write.new.out.tokens ≡ tokens_of (data_of c.args.json.now) = search rules in
    bytes ∙ c.into_inner-bytes.ensures.items ∙ rw (before, tokens) (print-tokens_of (data_of c.args.json.now))

pub returns-clause-text : goal.returns-clause-text
returns-clause-text c = text_is c

pub returns-clause-reads_back : goal.returns-clause-reads_back
returns-clause-reads_back c =
    let proper : IsProper (data_of c.args.json.now) = c.in_ok-write.ensures.proper in
    λ shallow. ap read_json (text_is c) ∙ reads_back (data_of c.args.json.now) proper shallow

-- A request as a message of HTTP (RFC 9112): one POST to the path of its number, with the caller in a header line of its own, and the act's
-- JSON as the body. The connection ends behind the answer.
use Rattle.std.specs.Prelude.{◌++◌, length, codes, decimal}
use Rattle.po_text.specs.Texts.{Text}
use Rattle.request_book.specs.Words.{number_text}
use Rattle.request_book.specs.Acts.{act_text}
use Rattle.request_book.specs.declared.act.Request.{Request}

abbrev pub message_of : Text → Text → Text → Text
message_of number caller body =
    codes "POST /v1/requests/" ++ (number ++ (codes " HTTP/1.1\r\nHost: 127.0.0.1\r\nConnection: close\r\nX-Office-Caller: "
    ++ (caller ++ (codes "\r\nContent-Type: application/json\r\nContent-Length: " ++ (decimal (length body) ++ (codes "\r\n\r\n" ++ body))))))

abbrev pub message : Request → Text
message request = message_of (number_text request.number) request.caller (act_text request.act)

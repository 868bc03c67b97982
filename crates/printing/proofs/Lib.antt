mod OutputLaws
mod SentLaws

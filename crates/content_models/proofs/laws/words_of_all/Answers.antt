use Rattle.content_models.proofs.Filling.{word_has}
use Rattle.content_models.proofs.Recognizing.{recognizes_words, recognizes_empty}
use Rattle.content_models.proofs.laws.words_of_all.Goals as goal

pub returns-clause-language : goal.returns-clause-language
returns-clause-language c = λ accepts members optional model inhabited m letter is once few of lives has are known.
    recognizes_words accepts members optional model is once few inhabited m of letter lives are known has

pub returns-clause-without_words : goal.returns-clause-without_words
returns-clause-without_words c = λ accepts members optional model inhabited m letter is once few of lost lacks past.
    recognizes_empty accepts members optional model is once few inhabited m of letter lost past (λ word w. lacks (word_has accepts members word w))

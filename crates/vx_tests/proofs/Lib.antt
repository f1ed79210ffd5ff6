mod AboveLaws

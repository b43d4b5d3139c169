mod ExtentLemmas

mod FunctionNames
